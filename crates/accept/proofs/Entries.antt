-- Names entered into the map.
use Rattle.std.proofs.Common.{◌≡◌, ℕ, ◌<◌, ◌≤◌, Bool, true, false, cond, List, [], ◌∷◌, length, Some, None, Ok, Err, Result, sym, refl, ap, ◌∙◌, subst, arith, Bor}
use Rattle.std.specs.Str.{bytes_eq}
use Rattle.slots.specs.declared.slot.InsertError.{InsertError}
use Rattle.slots.specs.declared.slot.InsertError.TheVariants.{Present, Full}
use Rattle.slots.specs.Maps.{Slots, at, taken, Valid, Inserts, Vacant}
use Rattle.slots.proofs.Tables.{taken_most}
use Rattle.accept.specs.declared.key.NameKey.{NameKey}
use Rattle.accept.specs.declared.names.EventNames.{EventNames}
use Rattle.accept.specs.Keys.{same_name, name_hash}
use Rattle.accept.specs.Numbers.{numbered, Few}
use Rattle.accept.specs.Naming.{entered, Entering}

-- what the map answers depends on a key's bytes alone
pub at_numbered : (s : Slots NameKey) (q : NameKey) → at same_name s q ≡ numbered s q.bytes.now
at_numbered [] q = refl
at_numbered (None ∷ s) q = at_numbered s q
at_numbered (Some x ∷ s) q = ap (cond (bytes_eq x.key.bytes.now q.bytes.now) (Some x.value)) (at_numbered s q)

pub entered_few : (s : EventNames) → entered s ≤ 12
entered_few s = let q = taken_most s.slots in let n = s.twelve in omega arith

some_same : {x y : ℕ} → Some x ≡ Some y → x ≡ y
some_same e = cc

module _ (s t : Slots NameKey) (n : Bor (List ℕ)) (k v : ℕ) (is : v ≡ k) where
  abbrev key : List ℕ → NameKey
  key m = record { bytes = record { ref_ptr = n.ref_ptr; now = m } }

  numbered_more : Inserts same_name s t (record { bytes = n }) v (Ok tt) → (m : List ℕ) → numbered t m ≡ cond (bytes_eq n.now m) (Some k) (numbered s m)
  numbered_more (new, many, long, all) m =
      sym (at_numbered t (key m)) ∙ all (key m) ∙ ap (λ e. cond (bytes_eq n.now m) (Some e) (at same_name s (key m))) is ∙ ap (cond (bytes_eq n.now m) (Some k)) (at_numbered s (key m))

  module _ (twelve : length s ≡ 12) (next : k ≡ taken s) (few : Few s) where
    few_with : k < 12 → (b : Bool) (m : List ℕ) (e : ℕ) → cond b (Some k) (numbered s m) ≡ Some e → e < 12
    few_with h true m e q = let p : k ≡ e = some_same q in omega arith
    few_with h false m e q = few m e q

    -- the numbers stay below twelve
    pub kept : Inserts same_name s t (record { bytes = n }) v (Ok tt) → (length t ≡ 12) × Few t
    kept (new, many, long, all) =
        let q = taken_most t in (
          long ∙ twelve,
          λ m e p. few_with (omega arith) (bytes_eq n.now m) m e (sym (numbered_more (new, many, long, all) m) ∙ p),
        )

module _ (s : EventNames) (t : Slots NameKey) (n : Bor (List ℕ)) (k v : ℕ) (is : v ≡ k) (twelve : length t ≡ 12) (valid : Valid same_name name_hash t) (few : Few t) where
  pub entering : Inserts same_name s.slots t (record { bytes = n }) v (Ok tt) → Entering s n.now k (record { slots = t; twelve = twelve; valid = valid; few = few }) (Ok tt)
  entering (new, many, long, all) = (
    sym (at_numbered s.slots (record { bytes = n })) ∙ new,
    many,
    numbered_more s.slots t n k v is (new, many, long, all),
  )

-- a name that has no vacancy is not entered
no_entry : (s : EventNames) (n : Bor (List ℕ)) (k : ℕ) (e : InsertError) → Vacant same_name name_hash s.slots (record { bytes = n }) (Err e) → Entering s n.now k s (Err e)
no_entry s n k (Present e) old = sym (at_numbered s.slots (record { bytes = n })) ∙ old
no_entry s n k Full (new, all) = (sym (at_numbered s.slots (record { bytes = n })) ∙ new, all ∙ s.twelve)

pub not_entered : (s : EventNames) (n : Bor (List ℕ)) (k : ℕ) (e : InsertError) (r : Result (Unit {0}) InsertError) → Vacant same_name name_hash s.slots (record { bytes = n }) (Err e) → r ≡ Err e → Entering s n.now k s r
not_entered s n k e r vacant is = subst (Entering s n.now k s) (sym is) (no_entry s n k e vacant)
