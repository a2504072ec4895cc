use Rattle.std.proofs.Common.{sym, subst}
use Rattle.text.specs.Words.{closes}
use Rattle.forms.specs.Reads.{CloseAt}
use Rattle.forms.proofs.expr.close_at.Goals as goal

pub returns-in_err-next : goal.returns-in_err-next
returns-in_err-next c = subst (CloseAt c.args.text.now c.args.at) (sym c.from_residual.ensures) (λ o stands. c.in_err-next.ensures.word closes o stands)
