-- What the flow reader answers where an event is declared. Assumes nothing.
--     entered s            how many names s has
--     Entering s n k t r   asked to enter the name n for event k, the map answers r and leaves the names t, where it had s
--     Declaring s n k t r  asked to declare event k with the name n, the reader answers r and leaves the names t, where it had s
use Rattle.std.specs.Prelude.{◌≡◌, ℕ, ◌+◌, cond, List, Some, None, Ok, Err, Result}
use Rattle.std.specs.Str.{bytes_eq}
use Rattle.slots.specs.declared.slot.InsertError.{InsertError}
use Rattle.slots.specs.declared.slot.InsertError.TheVariants.{Present, Full}
use Rattle.slots.specs.Maps.{taken}
use Rattle.accept.specs.declared.names.EventNames.{EventNames}
use Rattle.refusals.specs.declared.refusal.Fault.{Fault}
use Rattle.refusals.specs.declared.refusal.Fault.TheVariants.{Byte, Shape, Name, Twice, Undeclared, TooMany}
use Rattle.accept.specs.Drafts.{IsName}
use Rattle.accept.specs.Tallies.{known}

abbrev pub entered : EventNames → ℕ
entered s = taken s.slots

-- there is room for twelve names
abbrev pub Entering : EventNames → List ℕ → ℕ → EventNames → Result (Unit {0}) InsertError → Type 0
Entering s n k t (Ok done) =
    (known s n ≡ None) × (entered t ≡ entered s + 1) × ((m : List ℕ) → known t m ≡ cond (bytes_eq n m) (Some k) (known s m))
Entering s n k t (Err (Present e)) = known s n ≡ Some e
Entering s n k t (Err Full) = (known s n ≡ None) × (entered s ≡ 12)

-- no fault but those of names is found here
abbrev pub Declaring : EventNames → List ℕ → ℕ → EventNames → Result (Unit {0}) Fault → Type 0
Declaring s n k t (Ok done) =
    IsName n × (known s n ≡ None) × (entered t ≡ entered s + 1) × ((m : List ℕ) → known t m ≡ cond (bytes_eq n m) (Some k) (known s m))
Declaring s n k t (Err Byte) = ⊥
Declaring s n k t (Err Shape) = ⊥
Declaring s n k t (Err Name) = IsName n → ⊥
Declaring s n k t (Err Twice) = IsName n × ((e : ℕ) × (known s n ≡ Some e))
Declaring s n k t (Err Undeclared) = ⊥
Declaring s n k t (Err TooMany) = IsName n × (known s n ≡ None) × (entered s ≡ 12)
