-- Expressions, and what a list of literals meets. Assumes nothing.
--     leaves x      the numbers of the leaves of x, in the order written
--     events_in x   the events of the literals of x, in the order written
--     Meets x w     w meets x
use Rattle.std.specs.Prelude.{◌≡◌, ℕ, ◌⊎◌, List, [], ◌∷◌, ◌++◌}
use mathlib.Core.List.{Memᴰ}
use Rattle.algebra.specs.declared.literal.Literal.{Literal}
use Rattle.algebra.specs.declared.expr.Atom.TheVariants.{Lit, Yes, No}
use Rattle.algebra.specs.declared.expr.Head.TheVariants.{Alt, All, Seq}
use Rattle.algebra.specs.declared.expr.Expr.{Expr}
use Rattle.algebra.specs.declared.expr.Expr.TheVariants.{Leaf, Binary'}
use Rattle.algebra.specs.Literals.{event_of}

-- (`Binary'` has each box in two parts, the pointer and allocator p or q, and then what the box holds.)
abbrev pub leaves : Expr → List ℕ
leaves (Leaf a i) = i.value ∷ []
leaves (Binary' h p x q y) = leaves x ++ leaves y

abbrev pub events_in : Expr → List ℕ
events_in (Leaf (Lit l) i) = event_of l ∷ []
events_in (Leaf Yes i) = []
events_in (Leaf No i) = []
events_in (Binary' h p x q y) = events_in x ++ events_in y

abbrev pub Meets : Expr → List Literal → Type 0
Meets (Leaf (Lit l) i) w = Memᴰ l w
Meets (Leaf Yes i) w = Unit {0}
Meets (Leaf No i) w = ⊥
Meets (Binary' Alt p x q y) w = Meets x w ⊎ Meets y w
Meets (Binary' All p x q y) w = Meets x w × Meets y w
Meets (Binary' Seq p x q y) w =
    (front : List Literal) × (rest : List Literal) × (w ≡ front ++ rest) × Meets x front × Meets y rest
