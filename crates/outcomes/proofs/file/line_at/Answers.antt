use Rattle.std.proofs.Common.{rules, ◌≡◌, List, [], Some, None, refl, sym, ap, ◌∙◌}
use Rattle.std.specs.Prelude.{ℕ, ◌==◌}
use Rattle.std.specs.Borrow.{Bor}
use Rattle.std.specs.declared.option.Option.{Option}
use Rattle.std.specs.List.{slice_get, slice_split}
use Rattle.std.specs.Option.{option_map, unwrap_or}
use Rattle.std.proofs.lemmas.Option.{unwrap_or-slice_get}
use Rattle.std.proofs.lemmas.Iterator.Consumers.{nth_from_yields_List}
use Rattle.std.proofs.lemmas.Iterator.Splits.{YieldsList-from_slice_split}
use Rattle.outcomes.proofs.Splitting.{line_text-part}
use Rattle.outcomes.proofs.file.line_at.Goals as goal

read : (r : Option (Bor (List ℕ))) (d : Bor (List ℕ)) → (unwrap_or r d).now ≡ unwrap_or (option_map (λ x. x.now) r) d.now
read None d = refl
read (Some x) d = refl

pub returns : goal.returns
returns c =
    let lines = slice_split (λ b. b == 10) c.args.file.now in
    let at : option_map (λ x. x.now) c.nth.result ≡ slice_get lines c.args.number =
    nth_from_yields_List c.nth.result c.nth.new.self c.args.number c.nth.ensures.ran
    (YieldsList-from_slice_split _ (λ b. b == 10) c.args.file.now c.split.ensures.rest c.split.ensures.done c.split.ensures.closure (λ x b q h. search (rules, h))) in
    ap (λ x. x.now) c.unwrap_or.ensures ∙ read c.nth.result _ ∙ ap (λ r. unwrap_or r []) at ∙ unwrap_or-slice_get lines c.args.number []
    ∙ sym (line_text-part c.args.number c.args.file.now)
