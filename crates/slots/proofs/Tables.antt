-- Searches and writes in a map of slots.
use Rattle.std.proofs.Common.{◌≡◌, ℕ, zero, suc, ◌+◌, ◌%◌, ◌<◌, ◌≤◌, Bool, true, false, cond, [], ◌∷◌, length, get_or, set, replicate, Some, None, Option, MatchOption, sym, refl, ap, ◌∙◌, subst, ⊎_elim, arith}
use native.Mathlib.Nat.{suc_inj}
use Rattle.std.proofs.lemmas.Bool.{cases_lt, cases_eq, cases_Bool, both_ways, cond-true, cond-false}
use Rattle.std.proofs.lemmas.List.{get_or-set_same, get_or-set_other, get_or_past, length-set}
use Rattle.slots.specs.declared.slot.Entry.{Entry}
use Rattle.slots.specs.declared.slot.Place.{Place}
use Rattle.slots.specs.declared.slot.Place.TheVariants.{Taken, Free}
use Rattle.slots.specs.Maps.{Slots, at, is_free, Holds, Filled, Way, Valid, Cleared, taken}
use Rattle.slots.specs.Search.{Lacks, Scans, Seeks}

pub never : {X : Type 0} → ◌≡◌ {A = ℕ} 0 1 → X
never e = absurd (omega arith)

pub false_unless : (b : Bool) → (b ≡ true → ⊥) → b ≡ false
false_unless true h = absurd (h refl)
false_unless false h = refl

module _ {K : Type 0} where
  -- the slot that a key and a value take
  abbrev pub entry : K → ℕ → Option (Entry K)
  entry k v = Some (record { key = k; value = v })

  entry_key : (k l : K) (v w : ℕ) → entry k v ≡ entry l w → k ≡ l
  entry_key k l v w e =
      let parts : record { key = k; value = v } ≡ record { key = l; value = w } = cc in
      ap (λ (x : Entry K). x.key) parts

  pub free_taken : (s : Slots K) (i : ℕ) (k : K) (v : ℕ) → get_or s i None ≡ None → Holds s i k v → ⊥
  free_taken s i k v f h = let z : ◌≡◌ {A = ℕ} 0 1 = cc in omega arith

  pub free_filled : (x : Option (Entry K)) → x ≡ None → is_free x ≡ false → ⊥
  free_filled x f h = both_ways (is_free x) h (ap is_free f)

module _ {K : Type 0} (same : K → K → Bool) where
  -- no two entries are the same
  abbrev Apart : Slots K → Type 0
  Apart s = (i j : ℕ) (k l : K) (v w : ℕ) → Holds s i k v → Holds s j l w → same k l ≡ true → i ≡ j

  pub at_none : (s : Slots K) (q : K) → Lacks same s q 0 (length s) → at same s q ≡ None
  at_none [] q h = refl
  at_none (None ∷ s) q h = at_none s q (λ i low l k v e. h (suc i) (omega arith) (omega arith) k v e)
  at_none (Some y ∷ s) q h =
      cond-false (same y.key q) _ _ (h 0 (omega arith) (omega arith) y.key y.value refl) ∙ at_none s q (λ i low l k v e. h (suc i) (omega arith) (omega arith) k v e)

  pub held_within : (s : Slots K) (i : ℕ) (k : K) (v : ℕ) → Holds s i k v → i < length s
  held_within s i k v h =
      ⊎_elim (λ l. l) (λ m. let p = get_or_past s i None m in let z : ◌≡◌ {A = ℕ} 0 1 = cc in omega arith) (cases_lt i (length s))

  module _ (symm : (x y : K) → same x y ≡ true → same y x ≡ true)
      (trans : (x y z : K) → same x y ≡ true → same y z ≡ true → same x z ≡ true) where
    pub at_some : (s : Slots K) (q : K) (i : ℕ) (k : K) (v : ℕ) → Apart s → Holds s i k v → same k q ≡ true → at same s q ≡ Some v
    at_some [] q i k v apart h e = never (cc)
    at_some (None ∷ s) q zero k v apart h e = never (cc)
    at_some (None ∷ s) q (suc i) k v apart h e = at_some s q i k v (λ a b x y u w p r t. suc_inj (apart (suc a) (suc b) x y u w p r t)) h e
    at_some (Some y ∷ s) q zero k v apart h e =
        let is : y ≡ record { key = k; value = v } = cc in
        subst (λ (z : Entry K). cond (same z.key q) (Some z.value) (at same s q) ≡ Some v) (sym is) (cond-true (same k q) _ _ e)
    at_some (Some y ∷ s) q (suc i) k v apart h e =
        ⊎_elim
        (λ m. let z = apart (suc i) 0 k y.key v y.value h refl (trans k q y.key e (symm y.key q m)) in absurd (omega arith))
        (λ m. cond-false (same y.key q) _ _ m ∙ at_some s q i k v (λ a b x y u w p r t. suc_inj (apart (suc a) (suc b) x y u w p r t)) h e)
        (cases_Bool (same y.key q))

    pub at_set : (s : Slots K) (i : ℕ) (q : K) (v : ℕ) (x : K) → i < length s → get_or s i None ≡ None → Lacks same s q 0 (length s)
        → at same (set s i (entry q v)) x ≡ cond (same q x) (Some v) (at same s x)
    at_set [] i q v x l f h = absurd (omega arith)
    at_set (None ∷ s) zero q v x l f h = refl
    at_set (None ∷ s) (suc i) q v x l f h = at_set s i q v x (omega arith) f (λ j low m k w e. h (suc j) (omega arith) (omega arith) k w e)
    at_set (Some y ∷ s) zero q v x l f h = absurd (free_taken (Some y ∷ s) 0 y.key y.value f refl)
    at_set (Some y ∷ s) (suc i) q v x l f h =
        let ih = at_set s i q v x (omega arith) f (λ j low m k w e. h (suc j) (omega arith) (omega arith) k w e) in
        ⊎_elim
        (λ m.
        let n : same q x ≡ false = false_unless (same q x) (λ t. both_ways (same y.key q) (h 0 (omega arith) (omega arith) y.key y.value refl) (trans y.key x q m (symm q x t))) in
        cond-true (same y.key x) _ _ m ∙ sym (cond-true (same y.key x) _ _ m) ∙ sym (cond-false (same q x) _ _ n))
        (λ m. cond-false (same y.key x) _ _ m ∙ ih ∙ ap (cond (same q x) (Some v)) (sym (cond-false (same y.key x) _ _ m)))
        (cases_Bool (same y.key x))

    module _ (hash : K → ℕ) (shared : (x y : K) → same x y ≡ true → hash x ≡ hash y) (s : Slots K) (q : K) (valid : Valid same hash s) where
      -- a slot with the key is reached from the key's home
      pub way_there : (i : ℕ) (k : K) (v : ℕ) → Holds s i k v → same k q ≡ true → Way s (hash q % length s) i
      way_there i k v h e = subst (λ (d : ℕ). Way s (d % length s) i) (shared k q e) (valid.reached i k v h)

      -- the first search, from the home to the end
      pub first_search : (r : Option Place) → Scans same s q (hash q % length s) (length s) r → (r ≡ None → ⊥) → Seeks same hash s q r
      first_search (Some (Taken v)) (i, k, h, e) ne = at_some s q i k v valid.apart h e
      first_search None h ne = absurd (ne refl)
      first_search (Some (Free i)) (low, high, free, filled, lacks) ne =
          let all : Lacks same s q 0 (length s) = λ j _ m k v h. false_unless (same k q) (λ e.
          let w = way_there j k v h e in
          ⊎_elim
          (λ j<h. free_filled _ free ((w.1 j<h).0 i low high))
          (λ h≤j. ⊎_elim
          (λ j<i. both_ways (same k q) (lacks j h≤j j<i k v h) e)
          (λ i≤j. ⊎_elim (λ i≡j. free_taken s j k v (subst (λ (n : ℕ). get_or s n None ≡ None) i≡j free) h) (λ ne. free_filled _ free (w.0 h≤j i low (omega arith))) (cases_eq i j))
          (cases_lt j i))
          (cases_lt j (hash q % length s))) in
          (at_none s q all, high, free, ((λ _. filled), (λ l. absurd (omega arith))), all)

      -- the second search, from the start to the home
      pub second_search : (r : Option Place) → hash q % length s ≤ length s → Filled s (hash q % length s) (length s) → Lacks same s q (hash q % length s) (length s)
          → Scans same s q 0 (hash q % length s) r → Seeks same hash s q r
      second_search (Some (Taken v)) hn fill lack (i, k, h, e) = at_some s q i k v valid.apart h e
      second_search None hn fill lack (filled, lacks) =
          let full : Filled s 0 (length s) = λ j low high. ⊎_elim (λ l. filled j low l) (λ m. fill j m high) (cases_lt j (hash q % length s)) in
          let all : Lacks same s q 0 (length s) = λ j low high. ⊎_elim (λ l. lacks j low l) (λ m. lack j m high) (cases_lt j (hash q % length s)) in
          (at_none s q all, full)
      second_search (Some (Free i)) hn fill lack (low, high, free, filled, lacks) =
          let all : Lacks same s q 0 (length s) = λ j _ m k v h. false_unless (same k q) (λ e.
          let w = way_there j k v h e in
          ⊎_elim
          (λ j<h. ⊎_elim
          (λ j<i. both_ways (same k q) (lacks j (omega arith) j<i k v h) e)
          (λ i≤j. ⊎_elim (λ i≡j. free_taken s j k v (subst (λ (n : ℕ). get_or s n None ≡ None) i≡j free) h) (λ ne. free_filled _ free ((w.1 j<h).1 i (omega arith) (omega arith))) (cases_eq i j))
          (cases_lt j i))
          (λ h≤j. both_ways (same k q) (lack j h≤j m k v h) e)
          (cases_lt j (hash q % length s))) in
          (at_none s q all, omega arith, free, ((λ l. absurd (omega arith)), (λ _. (fill, filled))), all)

      pub both_searches : (first r : Option Place) → hash q % length s ≤ length s → Scans same s q (hash q % length s) (length s) first
          → MatchOption first (Scans same s q 0 (hash q % length s) r) (λ p. r ≡ Some p) → Seeks same hash s q r
      both_searches None r hn (fill, lack) again = second_search r hn fill lack again
      both_searches (Some p) r hn found is = subst (Seeks same hash s q) (sym is) (first_search (Some p) found (λ e. never (cc)))

      -- a write into the room
      module _ (i v : ℕ) (within : i < length s) (free : get_or s i None ≡ None) (way : Way s (hash q % length s) i) (lacks : Lacks same s q 0 (length s)) where
        filled_set : (a b : ℕ) → Filled s a b → Filled (set s i (entry q v)) a b
        filled_set a b f j low high =
            ⊎_elim (λ e. ap is_free (subst (λ (n : ℕ). get_or (set s i (entry q v)) n None ≡ entry q v) (sym e) (get_or-set_same s i (entry q v) None within)))
            (λ ne. ap is_free (get_or-set_other s i j (entry q v) None ne) ∙ f j low high)
            (cases_eq j i)

        way_set : (h j : ℕ) → Way s h j → Way (set s i (entry q v)) h j
        way_set h j w = ((λ l. filled_set h j (w.0 l)), (λ l. (subst (Filled (set s i (entry q v)) h) (sym (length-set s i (entry q v))) (filled_set h (length s) (w.1 l).0), filled_set 0 j (w.1 l).1)))

        pub valid_set : Valid same hash (set s i (entry q v))
        valid_set = record {
          reached = λ j k w h.
              let len : length (set s i (entry q v)) ≡ length s = length-set s i (entry q v) in
              subst (λ (n : ℕ). Way (set s i (entry q v)) (hash k % n) j) (sym len)
              (⊎_elim
              (λ e.
              let here = get_or-set_same s i (entry q v) None within in
              let t : get_or (set s i (entry q v)) i None ≡ entry k w = subst (λ (n : ℕ). Holds (set s i (entry q v)) n k w) e h in
              let m : q ≡ k = entry_key q k v w (sym here ∙ t) in
              subst (λ (x : K). Way (set s i (entry q v)) (hash x % length s) j) m
              (subst (λ (n : ℕ). Way (set s i (entry q v)) (hash q % length s) n) (sym e) (way_set (hash q % length s) i way)))
              (λ ne. way_set (hash k % length s) j (valid.reached j k w (sym (get_or-set_other s i j (entry q v) None ne) ∙ h)))
              (cases_eq j i));
          apart = λ a b k l u w ha hb e.
              let here = get_or-set_same s i (entry q v) None within in
              ⊎_elim
              (λ ai. ⊎_elim
              (λ bi. ai ∙ sym bi)
              (λ nb.
              let t : get_or (set s i (entry q v)) i None ≡ entry k u = subst (λ (n : ℕ). Holds (set s i (entry q v)) n k u) ai ha in
              let m : k ≡ q = entry_key k q u v (sym t ∙ here) in
              let hb' : Holds s b l w = sym (get_or-set_other s i b (entry q v) None nb) ∙ hb in
              absurd (both_ways (same l q) (lacks b (omega arith) (held_within s b l w hb') l w hb') (symm q l (subst (λ (x : K). same x l ≡ true) m e))))
              (cases_eq b i))
              (λ na.
              let ha' : Holds s a k u = sym (get_or-set_other s i a (entry q v) None na) ∙ ha in
              ⊎_elim
              (λ bi.
              let t : get_or (set s i (entry q v)) i None ≡ entry l w = subst (λ (n : ℕ). Holds (set s i (entry q v)) n l w) bi hb in
              let m : l ≡ q = entry_key l q w v (sym t ∙ here) in
              absurd (both_ways (same k q) (lacks a (omega arith) (held_within s a k u ha') k u ha') (subst (λ (x : K). same k x ≡ true) m e)))
              (λ nb. valid.apart a b k l u w ha' (sym (get_or-set_other s i b (entry q v) None nb) ∙ hb) e)
              (cases_eq b i))
              (cases_eq a i);
        }

module _ {K : Type 0} where
  pub taken_set : (s : Slots K) (i : ℕ) (q : K) (v : ℕ) → i < length s → get_or s i None ≡ None → taken (set s i (entry q v)) ≡ taken s + 1
  taken_set [] i q v l f = absurd (omega arith)
  taken_set (None ∷ s) zero q v l f = omega arith
  taken_set (None ∷ s) (suc i) q v l f = taken_set s i q v (omega arith) f
  taken_set (Some y ∷ s) zero q v l f = absurd (free_taken (Some y ∷ s) 0 y.key y.value f refl)
  taken_set (Some y ∷ s) (suc i) q v l f = let ih = taken_set s i q v (omega arith) f in omega arith

  pub taken_most : (s : Slots K) → taken s ≤ length s
  taken_most [] = omega arith
  taken_most (None ∷ s) = let ih = taken_most s in omega arith
  taken_most (Some y ∷ s) = let ih = taken_most s in omega arith

  pub taken_all : (s : Slots K) → Filled s 0 (length s) → taken s ≡ length s
  taken_all [] f = refl
  taken_all (None ∷ s) f = absurd (both_ways true (f 0 (omega arith) (omega arith)) refl)
  taken_all (Some y ∷ s) f = let ih = taken_all s (λ j low high. f (suc j) (omega arith) (omega arith)) in omega arith

  free_everywhere : (s : Slots K) → ((k : ℕ) → k < length s → get_or s k None ≡ None) → (k : ℕ) → get_or s k None ≡ None
  free_everywhere s f k = ⊎_elim (λ l. f k l) (λ m. get_or_past s k None m) (cases_lt k (length s))

  pub none_taken : (s : Slots K) → ((k : ℕ) → k < length s → get_or s k None ≡ None) → taken s ≡ 0
  none_taken [] f = refl
  none_taken (None ∷ s) f = none_taken s (λ k l. f (suc k) (omega arith))
  none_taken (Some y ∷ s) f = absurd (free_taken (Some y ∷ s) 0 y.key y.value (f 0 (omega arith)) refl)

  pub all_free_valid : (same : K → K → Bool) (hash : K → ℕ) (s : Slots K) → ((k : ℕ) → k < length s → get_or s k None ≡ None) → Valid same hash s
  all_free_valid same hash s f = record {
    reached = λ i k v h. absurd (free_taken s i k v (free_everywhere s f i) h);
    apart = λ i j k l v w h h' e. absurd (free_taken s i k v (free_everywhere s f i) h);
  }

  pub all_free_none : (same : K → K → Bool) (s : Slots K) → ((k : ℕ) → k < length s → get_or s k None ≡ None) → (q : K) → at same s q ≡ None
  all_free_none same s f q = at_none same s q (λ i low l k v h. absurd (free_taken s i k v (f i l) h))

  all_free : (s t : Slots K) → length t ≡ length s → ((k : ℕ) → k < length t → get_or t k None ≡ None) → t ≡ replicate (length s) None
  all_free [] [] l f = refl
  all_free [] (y ∷ t) l f = absurd (omega arith)
  all_free (x ∷ s) [] l f = absurd (omega arith)
  all_free (x ∷ s) (y ∷ t) l f =
      let first = f 0 (omega arith) in
      let rest = all_free s t (omega arith) (λ k h. f (suc k) (omega arith)) in
      cc

  pub cleared : (same : K → K → Bool) (hash : K → ℕ) (s t : Slots K) → length t ≡ length s → ((k : ℕ) → k < length t → get_or t k None ≡ None) → Cleared same hash s t
  cleared same hash s t l f = record {
    free = all_free s t l f;
    valid = all_free_valid same hash t f;
    none = all_free_none same t f;
    empty = none_taken t f;
  }
