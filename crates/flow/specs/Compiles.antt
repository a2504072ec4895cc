-- What a flow is compiled to. Assumes nothing.
--     Means R f x          the expression x is what the form f says, where R e n says that the event e has the name n: heads of
--                          more than two members are pairs to the right, and the words yes and no are no names
--     MeansAll R h c x     the same of the further members c of a group with the head h
--     Each R fs xs         the expressions xs are what the forms fs say, one by one
--     Called ns e n        the event e has the name n among the names ns
--     Compiled d f         the flow f is what the draft d says. That its leaves are numbered from 0 on stands in its type
--     Reading bs r f       asked to read the file bs, the reader answers r and leaves the flow f
use Rattle.std.specs.Prelude.{◌≡◌, ℕ, List, [], ◌∷◌, map, Some, Ok, Err, codes, Result}
use Rattle.std.specs.List.{slice_get}
use Rattle.algebra.specs.declared.literal.Literal.TheVariants.{Happened, Never}
use Rattle.algebra.specs.declared.expr.Atom.TheVariants.{Lit, Yes, No}
use Rattle.algebra.specs.declared.expr.Head.{Head}
use Rattle.algebra.specs.declared.expr.Expr.{Expr}
use Rattle.algebra.specs.declared.expr.Expr.TheVariants.{Leaf, Binary'}
use Rattle.forms.specs.Forms.{Form, plain, never, group, Chain, last, more}
use Rattle.flow.specs.declared.flow.Flow.{Flow}
use Rattle.refusals.specs.declared.refusal.ReadError.{ReadError}
use Rattle.refusals.specs.declared.refusal.ReadError.TheVariants.{Refused, Memory}
use Rattle.accept.specs.Drafts.{Draft, names}
use Rattle.accept.specs.Outcomes.{accepted, refused, ComesTo}
use Rattle.flow.specs.Of.{events_of, names_of, rules_of, IsEmpty}

abbrev mutual
  pub Means : (ℕ → List ℕ → Type 0) → Form → Expr → Type 0
  Means R (plain n) (Leaf (Lit (Happened e)) k) = R e n
  Means R (plain n) (Leaf (Lit (Never e)) k) = ⊥
  Means R (plain n) (Leaf Yes k) = n ≡ codes "yes"
  Means R (plain n) (Leaf No k) = n ≡ codes "no"
  Means R (plain n) (Binary' g p x q y) = ⊥
  Means R (never n) (Leaf (Lit (Happened e)) k) = ⊥
  Means R (never n) (Leaf (Lit (Never e)) k) = R e n
  Means R (never n) (Leaf Yes k) = ⊥
  Means R (never n) (Leaf No k) = ⊥
  Means R (never n) (Binary' g p x q y) = ⊥
  Means R (group h f c) (Leaf a k) = ⊥
  Means R (group h f c) (Binary' g p x q y) = (g ≡ h) × Means R f x × MeansAll R h c y

  pub MeansAll : (ℕ → List ℕ → Type 0) → Head → Chain → Expr → Type 0
  MeansAll R h (last f) x = Means R f x
  MeansAll R h (more f c) (Leaf a k) = ⊥
  MeansAll R h (more f c) (Binary' g p x q y) = (g ≡ h) × Means R f x × MeansAll R h c y

abbrev pub Each : (ℕ → List ℕ → Type 0) → List Form → List Expr → Type 0
Each R [] [] = Unit {0}
Each R [] (x ∷ xs) = ⊥
Each R (f ∷ fs) [] = ⊥
Each R (f ∷ fs) (x ∷ xs) = Means R f x × Each R fs xs

abbrev pub Called : List (List ℕ) → ℕ → List ℕ → Type 0
Called ns e n = slice_get ns e ≡ Some n

pub record Compiled (d : Draft) (f : Flow) : Type 0 where
  pub names_are : names_of f ≡ names d
  pub events_are : events_of f ≡ map (λ x. x.told) d.declared
  pub rules_are : Each (Called (names d)) d.rules (rules_of f)

abbrev pub Reading : List ℕ → Result (Unit {0}) ReadError → Flow → Type 0
Reading bs (Ok done) f = (d : Draft) × ComesTo bs (accepted d) × Compiled d f
Reading bs (Err (Refused r)) f = ComesTo bs (refused r) × IsEmpty f
Reading bs (Err Memory) f = ((d : Draft) × ComesTo bs (accepted d)) × IsEmpty f
