use Rattle.std.proofs.Common.{◌≤◌, length, sym, subst, arith}
use mathlib.Core.List.Memᴰ
use mathlib.Core.List.{Memᴰ}
use Rattle.std.specs.List.{flat_map}
use Rattle.algebra.specs.Expressions.{events_in}
use Rattle.flow.specs.Events.{names_in, Distinct}
use Rattle.flow.proofs.Gaining.{distinct_none}
use Rattle.flow.proofs.flow.Flow.new.Goals as goal

pub invariant_of-result : goal.invariant_of-result
invariant_of-result c =
    let no_events = c.new.ensures.items in
    let no_rules = c.new-2.ensures in
    record {
      few_events = subst (λ es. length es ≤ 12) (sym no_events) (omega arith);
      few_rules = subst (λ xs. length xs ≤ 16) (sym no_rules) (omega arith);
      apart = subst (λ es. Distinct (names_in es)) (sym no_events) distinct_none;
      declared = λ e k. absurd (Memᴰ.not-nil (subst (λ xs. Memᴰ e (flat_map events_in xs)) no_rules k));
    }
