-- Packing statuses into a number, and taking them out.
use Rattle.std.proofs.Common.{◌≡◌, ℕ, zero, suc, ◌+◌, ◌-◌, ◌*◌, ◌/◌, ◌%◌, ◌^◌, ◌<◌, ◌≤◌, List, [], ◌∷◌, length, set, Some, None, sym, refl, ap, ◌∙◌, subst, le_trans, lt_of_lt_of_le, mul-le-mul_right, mod-eq_of_lt, div-mul-le_self, div-one, mul_left_comm, arith, length-set, pow_mono, pow-add}
use native.Mathlib.Nat.{pow-succ', div-div-eq-div-mul, mod-le}
use lib.Bits.{bit_and, and_mask}
use Rattle.std.specs.List.{slice_get}
use Rattle.std.proofs.lemmas.Nat.{shl_below}
use Rattle.std.proofs.lemmas.Option.{slice_get_past}
use Rattle.sheet.specs.declared.status.Status.{Status}
use Rattle.sheet.specs.declared.status.Status.TheVariants.{Open, Waiting, Happened, Never}
use Rattle.sheet.specs.Statuses.{number, status_of, packed, unpacked, statuses, Packing}

pub number_of : (n : ℕ) → n < 4 → number (status_of n) ≡ n
number_of zero h = refl
number_of (suc zero) h = refl
number_of (suc (suc zero)) h = refl
number_of (suc (suc (suc zero))) h = refl
number_of (suc (suc (suc (suc n)))) h = absurd (omega arith)

number_few : (s : Status) → number s < 4
number_few Open = omega arith
number_few Waiting = omega arith
number_few Happened = omega arith
number_few Never = omega arith

of_number : (s : Status) → status_of (number s) ≡ s
of_number Open = refl
of_number Waiting = refl
of_number Happened = refl
of_number Never = refl

length_unpacked : (n w : ℕ) → length (unpacked n w) ≡ n
length_unpacked zero w = refl
length_unpacked (suc n) w = ap suc (length_unpacked n (w / 4))

packed_unpacked : (n w : ℕ) → w < 4 ^ n → packed (unpacked n w) ≡ w
packed_unpacked zero w h = omega arith
packed_unpacked (suc n) w h =
    let rest : packed (unpacked n (w / 4)) ≡ w / 4 = packed_unpacked n (w / 4) (omega (arith, pow-succ' 4 n)) in
    let digit : number (status_of (w % 4)) ≡ w % 4 = number_of (w % 4) (omega arith) in
    omega arith

packed_few : (ss : List Status) → packed ss < 4 ^ length ss
packed_few [] = omega arith
packed_few (s ∷ ss) = omega (arith, packed_few ss, number_few s, pow-succ' 4 (length ss))

unpacked_packed : (ss : List Status) → unpacked (length ss) (packed ss) ≡ ss
unpacked_packed [] = refl
unpacked_packed (s ∷ ss) =
    let few = number_few s in
    let digit : packed (s ∷ ss) % 4 ≡ number s = omega arith in
    let rest : packed (s ∷ ss) / 4 ≡ packed ss = omega arith in
    let first = ap status_of digit ∙ of_number s in
    let others = ap (unpacked (length ss)) rest ∙ unpacked_packed ss in
    cc

-- the digit of an event
nth_unpacked : (n w e : ℕ) → e < n → slice_get (unpacked n w) e ≡ Some (status_of (w / 4 ^ e % 4))
nth_unpacked zero w e h = absurd (omega arith)
nth_unpacked (suc n) w zero h = ap (λ x. Some (status_of (x % 4))) (sym (div-one w))
nth_unpacked (suc n) w (suc e) h =
    nth_unpacked n (w / 4) e (omega arith) ∙ ap (λ x. Some (status_of (x % 4))) (div-div-eq-div-mul w 4 (4 ^ e) ∙ ap (λ p. w / p) (sym (pow-succ' 4 e)))

some_same : {X : Type 0} {x y : X} → Some x ≡ Some y → x ≡ y
some_same e = cc

-- another status for one event
packed_set : (ss : List Status) (e : ℕ) (old new : Status) → slice_get ss e ≡ Some old → packed (set ss e new) + number old * 4 ^ e ≡ packed ss + number new * 4 ^ e
packed_set [] e old new h = absurd (let z : ◌≡◌ {A = ℕ} 0 1 = cc in omega arith)
packed_set (s ∷ ss) zero old new h = let e : number s ≡ number old = ap number (some_same h) in omega arith
packed_set (s ∷ ss) (suc e) old new h =
    let p = pow-succ' 4 e in
    let rest = packed_set ss e old new h in
    let a : number old * 4 ^ suc e ≡ 4 * (number old * 4 ^ e) = ap (λ x. number old * x) p ∙ mul_left_comm (number old) 4 (4 ^ e) in
    let b : number new * 4 ^ suc e ≡ 4 * (number new * 4 ^ e) = ap (λ x. number new * x) p ∙ mul_left_comm (number new) 4 (4 ^ e) in
    omega arith

four_power : (e : ℕ) → 4 ^ e ≡ 2 ^ (2 * e)
four_power zero = refl
four_power (suc e) =
    pow-succ' 4 e ∙ ap (λ x. 4 * x) (four_power e) ∙ sym (ap (λ n. 2 ^ n) (let q : 2 * suc e ≡ 2 + 2 * e = omega arith in q) ∙ pow-add 2 2 (2 * e))

module _ where
  pub length_statuses : (w : ℕ) → length (statuses w) ≡ 12
  unfolding statuses
  length_statuses w = length_unpacked 12 w

  pub nth_statuses : (w e : ℕ) → e < 12 → slice_get (statuses w) e ≡ Some (status_of (w / 2 ^ (2 * e) % 4))
  unfolding statuses
  nth_statuses w e h = nth_unpacked 12 w e h ∙ ap (λ p. Some (status_of (w / p % 4))) (four_power e)

  pub packing : Packing
  unfolding statuses
  packing = (
    λ w h. packed_unpacked 12 w h,
    λ ss h. (subst (λ n. packed ss < 4 ^ n) h (packed_few ss), subst (λ n. unpacked n (packed ss) ≡ ss) h (unpacked_packed ss)),
  )

-- the word in which the event e has the status s: the old digit is taken out, and the new one put in
module _ (w e : ℕ) (s : Status) (few : w < 2 ^ 24) (h : e < 12) where
  abbrev place : ℕ
  place = 2 ^ (2 * e)

  abbrev old : ℕ
  old = w / place % 4

  old_fits : old * place ≤ w
  old_fits = le_trans (mul-le-mul_right place (mod-le (w / place) 4)) (div-mul-le_self w place)

  new_fits : number s * place < 2 ^ 24
  new_fits = lt_of_lt_of_le (shl_below (number s) 2 (2 * e) (number_few s)) (pow_mono {i = 2 + 2 * e} {j = 24} (omega arith))

  with_word : packed (set (statuses w) e s) + old * place ≡ w + number s * place
  with_word =
      let digit : number (status_of old) ≡ old = number_of old (omega arith) in
      let moved = packed_set (statuses w) e (status_of old) s (nth_statuses w e h) in
      let whole = packing.0 w few in
      subst (λ p. packed (set (statuses w) e s) + old * p ≡ w + number s * p) (four_power e)
      (sym (ap (λ n. packed (set (statuses w) e s) + n * 4 ^ e) digit) ∙ moved ∙ ap (λ n. n + number s * 4 ^ e) whole)

  with_few : packed (set (statuses w) e s) < 2 ^ 24
  with_few = (packing.1 (set (statuses w) e s) (length-set (statuses w) e s ∙ length_statuses w)).0

  -- as the code shifts them, in 32 bits
  old_shifted : (bit_and (w / place) 3 * place) % 2 ^ 32 ≡ old * place
  old_shifted = ap (λ n. (n * place) % 2 ^ 32) (and_mask (w / place) 2) ∙ mod-eq_of_lt (let k = old_fits in omega arith)

  new_shifted : (number s * place) % 2 ^ 32 ≡ number s * place
  new_shifted = mod-eq_of_lt (let k = new_fits in omega arith)

  pub old_taken : (bit_and (w / place) 3 * place) % 2 ^ 32 ≤ w
  old_taken = let a = old_shifted in let b = old_fits in omega arith

  pub with_shifted : (new : ℕ) → new ≡ number s → w - (bit_and (w / place) 3 * place) % 2 ^ 32 + (new * place) % 2 ^ 32 ≡ packed (set (statuses w) e s)
  with_shifted new is =
      let a = old_shifted in
      let b = ap (λ n. (n * place) % 2 ^ 32) is ∙ new_shifted in
      let f = old_fits in
      let g = with_word in
      omega arith

  pub shifted_few : (new : ℕ) → new ≡ number s → w - (bit_and (w / place) 3 * place) % 2 ^ 32 + (new * place) % 2 ^ 32 < 2 ^ 24
  shifted_few new is = let a = with_shifted new is in let b = with_few in omega arith

-- the status whose number an event's two bits hold
pub nth_numbered : (w e : ℕ) (s : Status) → e < 12 → number s ≡ bit_and (w / 2 ^ (2 * e)) 3 → slice_get (statuses w) e ≡ Some s
nth_numbered w e s h is =
    nth_statuses w e h ∙ ap Some (ap status_of (sym (is ∙ and_mask (w / 2 ^ (2 * e)) 2)) ∙ of_number s)

pub nth_absent : (w e : ℕ) → 12 ≤ e → slice_get (statuses w) e ≡ None
nth_absent w e h = slice_get_past (statuses w) e (let l = length_statuses w in omega arith)
