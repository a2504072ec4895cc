use Rattle.std.proofs.Common.{true, sym, ◌∙◌, ap, subst}
use Rattle.std.specs.Bool.{then_some}
use Rattle.forms.specs.Tails.{ForciblyAt}
use Rattle.forms.proofs.Ending.{forcible_word, forcible_not}
use Rattle.forms.proofs.entry.forcible_at.Goals as goal
use Rattle.forms.proofs.entry.forcible_at.Goals.{then-is_word, else-is_word}

pub returns : goal.returns
returns c =
    let bs = c.args.text.now in
    let a = c.args.at in
    let e = c.in_ok-name.end in
    let n = c.in_ok-name.name.bytes.now in
    let here = c.in_ok-name.ensures.1 in
    elim c.if-is_word.branch [
      | then-is_word w ↦
          subst (ForciblyAt bs a) (sym (c.then_some.ensures ∙ ap (λ b. then_some b true) w.then_some-is))
          (forcible_word bs a e n here c.if-closes_at.ensures w.if-is_word.ensures w.closes_at-then-is_word.result w.closes_at-then-is_word.ensures)
      | else-is_word w ↦
          subst (ForciblyAt bs a) (sym (c.then_some.ensures ∙ ap (λ b. then_some b true) (w.then_some-is ∙ w.if-is_word.false)))
          (forcible_not bs a e n here c.if-closes_at.ensures (λ is l. w.if-is_word.ensures is))
    ]
