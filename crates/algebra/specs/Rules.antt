-- Lists of rules. Assumes nothing.
--     Counts a ns           the numbers ns are a, a + 1, a + 2 and so on
--     NumberedOn xs         the leaves of the rules xs are numbered 0, 1, 2 and so on, in the order written; so no number stands twice, and
--                           there are at most 64 leaves, since a leaf's number is below 64
--     Next xs x n           n is the number of leaves of the rules xs and x together; absent if they are not numbered on
--     Added xs x ys r       what `push` says: asked to add the rule x to the rules xs, it answers r and leaves ys
--     RuleAt xs k r         r is rule k of the rules xs, which is one of them; absent if there is no such rule
--     Answers xs w k r      r says of rule k of the rules xs whether w meets it; absent if there is no such rule
use Rattle.std.specs.Prelude.{◌≡◌, ℕ, ◌≤◌, Bool, true, ◌↔◌, List, [], ◌∷◌, ◌++◌, length, Some, None, Ok, Err, Option, Result}
use mathlib.Core.List.{Memᴰ}
use Rattle.std.specs.List.{range_with_len, slice_get, flat_map}
use Rattle.algebra.specs.declared.literal.Literal.{Literal}
use Rattle.algebra.specs.declared.expr.Expr.{Expr}
use Rattle.algebra.specs.declared.rules.RulesError.{RulesError}
use Rattle.algebra.specs.declared.rules.RulesError.TheVariants.{Misnumbered, Memory}
use Rattle.algebra.specs.Expressions.{leaves, Meets}

abbrev pub Counts : ℕ → List ℕ → Type 0
Counts a ns = ns ≡ range_with_len a (length ns)

abbrev pub NumberedOn : List Expr → Type 0
NumberedOn xs = Counts 0 (flat_map leaves xs)

abbrev pub Next : List Expr → Expr → Option ℕ → Type 0
Next xs x None = NumberedOn (xs ++ (x ∷ [])) → ⊥
Next xs x (Some n) = NumberedOn (xs ++ (x ∷ [])) × (n ≡ length (flat_map leaves (xs ++ (x ∷ [])))) × (n ≤ 64)

abbrev pub Added : List Expr → Expr → List Expr → Result (Unit {0}) RulesError → Type 0
Added xs x ys (Ok done) = (ys ≡ xs ++ (x ∷ [])) × NumberedOn (xs ++ (x ∷ []))
Added xs x ys (Err (Misnumbered y)) = (ys ≡ xs) × (y ≡ x) × (NumberedOn (xs ++ (x ∷ [])) → ⊥)
Added xs x ys (Err (Memory y)) = (ys ≡ xs) × (y ≡ x) × NumberedOn (xs ++ (x ∷ []))

abbrev pub RuleAt : List Expr → ℕ → Option Expr → Type 0
RuleAt xs k None = slice_get xs k ≡ None
RuleAt xs k (Some x) = (slice_get xs k ≡ Some x) × Memᴰ x xs

abbrev pub Answers : List Expr → List Literal → ℕ → Option Bool → Type 0
Answers xs w k None = slice_get xs k ≡ None
Answers xs w k (Some b) = (x : Expr) × (slice_get xs k ≡ Some x) × ((b ≡ true) ↔ Meets x w)
