use Rattle.std.proofs.Common.{drop, sym, subst}
use Rattle.text.specs.Words.{named, token_of}
use Rattle.forms.specs.Reads.{NameIs}
use Rattle.forms.proofs.Steps.{stands_only}
use Rattle.text.proofs.Tokens.{token_name}
use Rattle.forms.proofs.expr.name_at.Goals as goal

pub returns-in_err-next : goal.returns-in_err-next
returns-in_err-next c = subst (NameIs c.args.tight c.args.text.now c.args.at) (sym c.from_residual.ensures) (λ n o stands. c.in_err-next.ensures.word (named n) o stands)

pub returns-in_default : goal.returns-in_default
returns-in_default c =
    let bs = c.args.text.now in
    let x = c.in_ok-next.next in
    λ n o stands. (let (m, is) = token_name x.word n (stands_only c.args.tight (drop c.args.at bs) (token_of x.word) (named n) (drop x.end bs) o c.in_ok-next.ensures.word.2 stands).0 in c.in_default.not-Name m is)
