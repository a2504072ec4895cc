-- Literals, and lists of them that are traces. Assumes nothing.
--     event_of l      the event that the literal l speaks of
--     same k l        whether k and l are one literal
--     eq-same         == answers so of literals
--     Once ns         no number stands twice in ns
--     IsTrace w       w is a trace: no event stands twice in it, under either sign
--     Taken w l v r   what `push` says: asked to add the literal l to the trace w, it answers r and leaves v
use Rattle.std.specs.Prelude.{◌≡◌, ℕ, Bool, false, List, [], ◌∷◌, ◌++◌, map, Ok, Err, Result, ◌==◌, nat_eq, refl}
use mathlib.Core.List.{Memᴰ}
use Rattle.std.specs.List.{IsDistinct}
use Rattle.algebra.specs.contracts.literal.LiteralPartialEq.TheImpl as literal_eq
use Rattle.algebra.specs.declared.literal.Literal.{Literal}
use Rattle.algebra.specs.declared.literal.Literal.TheVariants.{Happened, Never}
use Rattle.algebra.specs.declared.trace.TraceError.{TraceError}
use Rattle.algebra.specs.declared.trace.TraceError.TheVariants.{Twice, Memory}

abbrev pub event_of : Literal → ℕ
event_of (Happened e) = e
event_of (Never e) = e

abbrev pub same : Literal → Literal → Bool
same (Happened d) (Happened e) = d == e
same (Happened d) (Never e) = false
same (Never d) (Happened e) = false
same (Never d) (Never e) = d == e

pub eq-same : (k l : Literal) → (literal_eq.ghosts).eq k l ≡ same k l
eq-same (Happened d) (Happened e) = refl
eq-same (Happened d) (Never e) = refl
eq-same (Never d) (Happened e) = refl
eq-same (Never d) (Never e) = refl

abbrev pub Once : List ℕ → Type 0
Once ns = IsDistinct nat_eq ns

abbrev pub IsTrace : List Literal → Type 0
IsTrace w = Once (map event_of w)

abbrev pub Taken : List Literal → Literal → List Literal → Result (Unit {0}) TraceError → Type 0
Taken w l v (Ok done) = (v ≡ w ++ (l ∷ [])) × (Memᴰ (event_of l) (map event_of w) → ⊥)
Taken w l v (Err Twice) = (v ≡ w) × Memᴰ (event_of l) (map event_of w)
Taken w l v (Err Memory) = (v ≡ w) × (Memᴰ (event_of l) (map event_of w) → ⊥)
