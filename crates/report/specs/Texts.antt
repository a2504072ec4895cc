-- Events by their names, and literals as text. Assumes nothing.
--     first_twelve ts   the texts ts as far as they name events
--     name_at names e   the name of the event e
--     Named names l     the event of the literal l has a name
--     text_of names l   the literal as text: the event's name, and `~` before it where the event never happens
--     Found names t r   r is an event with the name t; absent if there is none
--     Spells names l t  the event of the literal l has a name, and l is written t
--     Says names t r    r is the literal that the text t says, where a name goes before a name behind `~`; absent if it says none
use Rattle.std.specs.Prelude.{◌≡◌, ℕ, ◌<◌, List, [], ◌∷◌, map, length, take, Some, None, Option, ◌≢◌, slice_index_or}
use Rattle.std.specs.Borrow.{Bor}
use Rattle.algebra.specs.declared.literal.Literal.{Literal}
use Rattle.algebra.specs.declared.literal.Literal.TheVariants.{Happened, Never}
use Rattle.algebra.specs.Literals.{event_of}

-- a status word holds twelve events
abbrev pub first_twelve : List (Bor (List ℕ)) → List (List ℕ)
first_twelve ts = map (λ t. t.now) (take 12 ts)

abbrev pub name_at : List (List ℕ) → ℕ → List ℕ
name_at names e = slice_index_or names e []

abbrev pub Named : List (List ℕ) → Literal → Type 0
Named names l = event_of l < length names

-- 126 is the byte `~`
abbrev pub text_of : List (List ℕ) → Literal → List ℕ
text_of names (Happened e) = name_at names e
text_of names (Never e) = 126 ∷ name_at names e

abbrev pub Found : List (List ℕ) → List ℕ → Option ℕ → Type 0
Found names t None = (e : ℕ) → e < length names → name_at names e ≢ t
Found names t (Some e) = (e < length names) × (name_at names e ≡ t)

abbrev pub Spells : List (List ℕ) → Literal → List ℕ → Type 0
Spells names l t = Named names l × (text_of names l ≡ t)

abbrev pub Says : List (List ℕ) → List ℕ → Option Literal → Type 0
Says names t None = (l : Literal) → Spells names l t → ⊥
Says names t (Some (Happened e)) = Spells names (Happened e) t
Says names t (Some (Never e)) = Spells names (Never e) t × Found names t None
