-- The small flow that is built in code. Assumes nothing.
--     ApprovedFirst w       in the literals w the plate is never made, or it is made after its approval
--     Holds l n x           x is the leaf n, which says the literal l
--     Sample xs             xs is one rule, which is met just where the plate is never made or made after its approval
use Rattle.std.specs.Prelude.{◌≡◌, ℕ, ◌⊎◌, ◌↔◌, List, [], ◌∷◌, ◌++◌}
use mathlib.Core.List.{Memᴰ}
use Rattle.algebra.specs.declared.leaf.LeafNumber.{LeafNumber}
use Rattle.algebra.specs.declared.literal.Literal.{Literal}
use Rattle.algebra.specs.declared.literal.Literal.TheVariants.{Happened, Never}
use Rattle.algebra.specs.declared.expr.Atom.TheVariants.{Lit}
use Rattle.algebra.specs.declared.expr.Expr.{Expr}
use Rattle.algebra.specs.declared.expr.Expr.TheVariants.{Leaf}
use Rattle.algebra.specs.Expressions.{Meets}

-- event 0 is the approval, and event 1 the plate
abbrev pub ApprovedFirst : List Literal → Type 0
ApprovedFirst w =
    Memᴰ (Never 1) w
    ⊎ ((u : List Literal) × (v : List Literal) × (w ≡ u ++ v) × Memᴰ (Happened 0) u × Memᴰ (Happened 1) v)

abbrev pub Holds : Literal → ℕ → Expr → Type 0
Holds l n x = (i : LeafNumber) × (i.value ≡ n) × (x ≡ Leaf (Lit l) i)

abbrev pub Sample : List Expr → Type 0
Sample xs = (x : Expr) × (xs ≡ x ∷ []) × ((w : List Literal) → Meets x w ↔ ApprovedFirst w)
