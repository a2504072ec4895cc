-- The map that slots hold. Assumes nothing.
--     Slots K                  slots for the keys K
--     at same s q              what the map answers for the key q: the value of the entry that is the same as q
--     taken s                  how many slots are taken
--     is_free x                the slot x is free
--     Holds s i k v            slot i is taken by the key k with the value v
--     Filled s a b             the slots from a on, before b, are taken
--     Way s h i                the probe path from slot h to slot i, around the end, has no free slot before i
--     Valid same hash s        no two entries are the same, and each is found from its home, the place that its hash gives
--     Cleared same hash s t    t is s with every slot free
--     Inserts same s t q v r   asked to insert q with v into s, the map answers r and leaves t
--     Vacant same hash s q r   r is the slot of s where q is to be inserted with any value, or why it is not inserted
use Rattle.std.specs.Prelude.{◌≡◌, ℕ, suc, ◌+◌, ◌%◌, ◌<◌, ◌≤◌, Bool, true, false, cond, List, [], ◌∷◌, length, replicate, Some, None, Ok, Err, Option, Result, slice_index_or, slice_set}
use Rattle.slots.specs.declared.slot.Entry.{Entry}
use Rattle.slots.specs.declared.slot.InsertError.{InsertError}
use Rattle.slots.specs.declared.slot.InsertError.TheVariants.{Present, Full}

abbrev pub Slots : Type 0 → Type 0
Slots K = List (Option (Entry K))

abbrev pub at : {K : Type 0} → (K → K → Bool) → Slots K → K → Option ℕ
at same [] q = None
at same (None ∷ s) q = at same s q
at same (Some x ∷ s) q = cond (same x.key q) (Some x.value) (at same s q)

abbrev pub taken : {K : Type 0} → Slots K → ℕ
taken [] = 0
taken (None ∷ s) = taken s
taken (Some x ∷ s) = suc (taken s)

abbrev pub is_free : {K : Type 0} → Option (Entry K) → Bool
is_free None = true
is_free (Some x) = false

module _ {K : Type 0} where
  abbrev pub Holds : Slots K → ℕ → K → ℕ → Type 0
  Holds s i k v = slice_index_or s i None ≡ Some (record { key = k; value = v })

  abbrev pub Filled : Slots K → ℕ → ℕ → Type 0
  Filled s a b = (j : ℕ) → a ≤ j → j < b → is_free (slice_index_or s j None) ≡ false

  abbrev pub Way : Slots K → ℕ → ℕ → Type 0
  Way s h i = (h ≤ i → Filled s h i) × (i < h → Filled s h (length s) × Filled s 0 i)

module _ {K : Type 0} (same : K → K → Bool) (hash : K → ℕ) where
  pub record Valid (s : Slots K) : Type 0 where
    pub reached : (i : ℕ) (k : K) (v : ℕ) → Holds s i k v → Way s (hash k % length s) i
    pub apart : (i j : ℕ) (k l : K) (v w : ℕ) → Holds s i k v → Holds s j l w → same k l ≡ true → i ≡ j

  pub record Cleared (s t : Slots K) : Type 0 where
    pub free : t ≡ replicate (length s) None
    pub valid : Valid t
    pub none : (q : K) → at same t q ≡ None
    pub empty : taken t ≡ 0

module _ {K : Type 0} (same : K → K → Bool) where
  abbrev pub Inserts : Slots K → Slots K → K → ℕ → Result (Unit {0}) InsertError → Type 0
  Inserts s t q v (Ok done) =
      (at same s q ≡ None) × (taken t ≡ taken s + 1) × (length t ≡ length s) × ((x : K) → at same t x ≡ cond (same q x) (Some v) (at same s x))
  Inserts s t q v (Err (Present w)) = (t ≡ s) × (at same s q ≡ Some w)
  Inserts s t q v (Err Full) = (t ≡ s) × (at same s q ≡ None) × (taken s ≡ length s)

module _ {K : Type 0} (same : K → K → Bool) (hash : K → ℕ) where
  abbrev pub Vacant : Slots K → K → Result ℕ InsertError → Type 0
  Vacant s q (Ok i) =
      (i < length s) × ((v : ℕ) → let t = slice_set s i (Some (record { key = q; value = v })) in Inserts same s t q v (Ok tt) × Valid same hash t)
  Vacant s q (Err (Present w)) = at same s q ≡ Some w
  Vacant s q (Err Full) = (at same s q ≡ None) × (taken s ≡ length s)
