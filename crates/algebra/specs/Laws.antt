-- The law of what is left: after any trace, taken in two parts, a rule is fulfilled exactly if the whole trace meets it.
-- Assumes nothing.
--     LeftOfOne     the law for one expression, whose leaves have distinct numbers
--     LeftOfRules   the law for each rule of a list whose rules share one pair of marks, and in which no leaf number stands twice;
--                   `LeftOfOne` is its case of a list of one
use Rattle.std.specs.Prelude.{◌≡◌, true, ◌↔◌, List, ◌++◌, fold}
use mathlib.Core.List.{Memᴰ}
use Rattle.std.specs.List.{flat_map}
use Rattle.algebra.specs.declared.literal.Literal.{Literal}
use Rattle.algebra.specs.declared.expr.Expr.{Expr}
use Rattle.algebra.specs.Literals.{Once, IsTrace}
use Rattle.algebra.specs.Expressions.{leaves, Meets}
use Rattle.algebra.specs.Left.{fresh, fulfilled, applied, fresh_all, applied_all}

abbrev pub LeftOfOne : Type 0
LeftOfOne =
    (x : Expr) → Once (leaves x) → (u v : List Literal) → IsTrace (u ++ v)
    → (fulfilled x (fold (applied x) (fold (applied x) (fresh x) u) v) ≡ true) ↔ Meets x (u ++ v)

abbrev pub LeftOfRules : Type 0
LeftOfRules =
    (xs : List Expr) → Once (flat_map leaves xs) → (x : Expr) → Memᴰ x xs → (u v : List Literal) → IsTrace (u ++ v)
    → (fulfilled x (fold (applied_all xs) (fold (applied_all xs) (fresh_all xs) u) v) ≡ true) ↔ Meets x (u ++ v)
