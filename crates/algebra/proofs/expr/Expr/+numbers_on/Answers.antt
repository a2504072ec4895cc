use Rattle.std.proofs.Common.{◌≡◌, ◌+◌, ◌++◌, length, ap, ◌∙◌, subst}
use Rattle.algebra.specs.Expressions.{leaves}
use Rattle.algebra.specs.Rules.{Counts}
use Rattle.algebra.proofs.Counts.{Said, first_fails, both_count}
use Rattle.algebra.proofs.expr.Expr.+numbers_on.Goals as goal

pub returns-in_err-numbers_on-in-Binary : goal.returns-in_err-numbers_on-in-Binary
returns-in_err-numbers_on-in-Binary t c =
    let parts : leaves c.args.self.now ≡ leaves c.in-Binary.a.value ++ leaves c.in-Binary.b.value = ap leaves c.in-Binary.is in
    first_fails c.args.first (leaves c.in-Binary.a.value) (leaves c.in-Binary.b.value) c.from_residual.result parts c.from_residual.ensures (subst (λ x. Counts c.args.first (leaves x) → ⊥) c.deref-in-Binary.ensures c.in_err-numbers_on-in-Binary.ensures)

pub returns-in_ok-numbers_on-in-Binary : goal.returns-in_ok-numbers_on-in-Binary
returns-in_ok-numbers_on-in-Binary t c =
    let parts : leaves c.args.self.now ≡ leaves c.in-Binary.a.value ++ leaves c.in-Binary.b.value = ap leaves c.in-Binary.is in
    let said = c.in_ok-numbers_on-in-Binary.ensures in
    both_count c.args.first (leaves c.in-Binary.a.value) (leaves c.in-Binary.b.value) c.numbers_on-in-Binary.result parts
    (subst (λ x. Counts c.args.first (leaves x)) c.deref-in-Binary.ensures said.0)
    (said.1 ∙ ap (λ x. c.args.first + length (leaves x)) c.deref-in-Binary.ensures)
    (subst (λ x. Said c.in_ok-numbers_on-in-Binary.field-0 (leaves x) c.numbers_on-in-Binary.result) c.deref.ensures c.numbers_on-in-Binary.ensures)
