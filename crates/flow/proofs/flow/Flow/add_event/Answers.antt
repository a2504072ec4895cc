use Rattle.std.proofs.Common.{◌≤◌, length, is_ok, vec_items, sym, ap, subst, arith}
use mathlib.Core.List.{Memᴰ}
use Rattle.flow.specs.Events.{names_in, Distinct}
use Rattle.flow.specs.Of.{names_of}
use Rattle.flow.proofs.Gaining.{events_kept}
use Rattle.flow.proofs.flow.Flow.add_event.Goals as goal

pub invariant_of-self : goal.invariant_of-self
invariant_of-self c =
    let f = c.args.self.now in
    let is = c.push.ensures.items in
    let same = c.in_ok-name.ensures.items_if_clones_equal (λ x y e. e) in
    let kept =
    events_kept (vec_items f.events) (record { name = c.in_ok-name.name; event = c.args.declaration.event }) c.requires.few f.apart
    (λ m. c.requires.undeclared (subst (λ n. Memᴰ n (names_of f)) same m))
    (is_ok c.push.result) in
    record {
      few_events = subst (λ es. length es ≤ 12) (sym is) kept.0;
      few_rules = f.few_rules;
      apart = subst (λ es. Distinct (names_in es)) (sym is) kept.1;
      declared = λ e m. let q = f.declared e m in let r = ap length is in let k = kept.2 in omega arith;
    }
