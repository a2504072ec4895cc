use Rattle.std.proofs.Common.{◌≤◌, length, rules, sym, subst}
use Rattle.text.specs.Runs.{InnerAt}
use Rattle.text.proofs.Reading.{inner_past, never_none}
use Rattle.text.proofs.word.inner_at.Goals as goal

pub returns-in_err-get : goal.returns-in_err-get
returns-in_err-get c =
    let bs = c.args.text.now in
    let past : length bs ≤ c.args.at = search rules in
    subst (InnerAt bs c.args.at) (sym c.from_residual.ensures) (inner_past bs c.args.at past)

pub returns-in_err-name-in-Tilde : goal.returns-in_err-name-in-Tilde
returns-in_err-name-in-Tilde c =
    let bs = c.args.text.now in
    subst (InnerAt bs c.args.at) (sym c.from_residual-in_err-name-in-Tilde.ensures) (never_none bs c.args.at (search rules) (search rules) c.in_err-name-in-Tilde.ensures)
