use Rattle.std.proofs.Common.{sym, subst}
use Rattle.forms.specs.Tails.{EventAt}
use Rattle.forms.proofs.Ending.{no_grade, no_ending}
use Rattle.forms.proofs.entry.event_at.Goals as goal

pub returns-in_err-grade : goal.returns-in_err-grade
returns-in_err-grade c =
    let bs = c.args.text.now in
    let a = c.args.at in
    subst (EventAt bs a) (sym c.from_residual-in_err-grade.ensures)
    (no_grade bs a c.in_ok-name.name_end c.in_ok-name.name.bytes.now c.in_ok-name.ensures.1 c.in_err-grade.ensures)

pub returns-in_err-forcible : goal.returns-in_err-forcible
returns-in_err-forcible c =
    let bs = c.args.text.now in
    let a = c.args.at in
    subst (EventAt bs a) (sym c.from_residual-in_err-forcible.ensures)
    (no_ending bs a c.in_ok-name.name_end c.in_ok-name.name.bytes.now c.in_ok-name.ensures.1 c.in_ok-grade.grade c.in_ok-grade.grade_end c.in_ok-grade.ensures.1 c.in_err-forcible.ensures)
