-- What a search for a key ends at. Assumes nothing.
--     Lacks same s q a b       no entry from slot a on, before b, is the same as q
--     Scans same s q a b r     r is where a search for q from a on, before b, ended; absent if it found no place
--     Seeks same hash s q r    r is where the search for q through all slots ended; absent if it found no place
use Rattle.std.specs.Prelude.{◌≡◌, ℕ, ◌%◌, ◌<◌, ◌≤◌, Bool, true, false, length, Some, None, Option, slice_index_or}
use Rattle.slots.specs.declared.slot.Place.{Place}
use Rattle.slots.specs.declared.slot.Place.TheVariants.{Taken, Free}
use Rattle.slots.specs.Maps.{Slots, at, Holds, Filled, Way}

module _ {K : Type 0} (same : K → K → Bool) where
  abbrev pub Lacks : Slots K → K → ℕ → ℕ → Type 0
  Lacks s q a b = (i : ℕ) → a ≤ i → i < b → (k : K) (v : ℕ) → Holds s i k v → same k q ≡ false

  abbrev pub Scans : Slots K → K → ℕ → ℕ → Option Place → Type 0
  Scans s q a b (Some (Taken v)) = (i : ℕ) × (k : K) × Holds s i k v × (same k q ≡ true)
  Scans s q a b (Some (Free i)) = (a ≤ i) × (i < b) × (slice_index_or s i None ≡ None) × Filled s a i × Lacks s q a i
  Scans s q a b None = Filled s a b × Lacks s q a b

module _ {K : Type 0} (same : K → K → Bool) (hash : K → ℕ) where
  abbrev pub Seeks : Slots K → K → Option Place → Type 0
  Seeks s q (Some (Taken v)) = at same s q ≡ Some v
  Seeks s q (Some (Free i)) = (at same s q ≡ None) × (i < length s) × (slice_index_or s i None ≡ None) × Way s (hash q % length s) i × Lacks same s q 0 (length s)
  Seeks s q None = (at same s q ≡ None) × Filled s 0 (length s)
