-- One bit of a word: of no bits, of one bit alone, and of two words joined.
use Rattle.std.proofs.Common.{◌≡◌, ℕ, zero, suc, ◌+◌, ◌-◌, ◌/◌, ◌%◌, ◌^◌, ◌<◌, true, false, ◌||◌, eqb, refl, ap, ◌∙◌, inl, inr, mod-lt, pow-suc, arith, pow_pos, pow-add}
use native.Mathlib.Nat.{div_self, div-eq_of_lt, mul-mod_left, zero-div}
use lib.Bits.{bit_or, or_shr, or_mod}
use lib.Pow.{pow-lt, shl-shr}
use Rattle.std.proofs.lemmas.Bool.{cases_order}
use Rattle.algebra.specs.Marks.{has_bit}

-- the bit as a number
abbrev low : ℕ → ℕ → ℕ
low n j = n / 2 ^ j % 2

digits_or : (a b : ℕ) → a < 2 → b < 2 → eqb (bit_or a b) 1 ≡ eqb a 1 || eqb b 1
digits_or zero zero h k = refl
digits_or zero (suc zero) h k = refl
digits_or zero (suc (suc b)) h k = absurd (omega arith)
digits_or (suc zero) zero h k = refl
digits_or (suc zero) (suc zero) h k = refl
digits_or (suc zero) (suc (suc b)) h k = absurd (omega arith)
digits_or (suc (suc a)) b h k = absurd (omega arith)

pub bit_or_lem : (m n j : ℕ) → has_bit (bit_or m n) j ≡ has_bit m j || has_bit n j
bit_or_lem m n j =
    ap (λ x. eqb (x % 2) 1) (or_shr m n j) ∙ ap (λ x. eqb x 1) (or_mod (m / 2 ^ j) (n / 2 ^ j) 1)
    ∙ digits_or (low m j) (low n j) (mod-lt (m / 2 ^ j) (omega arith)) (mod-lt (n / 2 ^ j) (omega arith))

pub bit_none : (j : ℕ) → has_bit 0 j ≡ false
bit_none j = ap (λ x. eqb (x % 2) 1) (zero-div (2 ^ j))

pub bit_here : (i : ℕ) → has_bit (2 ^ i) i ≡ true
bit_here i = ap (λ x. eqb (x % 2) 1) (div_self (pow_pos i))

low_above : (d j : ℕ) → low (2 ^ (suc d + j)) j ≡ 0
low_above d j =
    ap (λ x. x / 2 ^ j % 2) (pow-add 2 (suc d) j) ∙ ap (λ x. x % 2) (shl-shr (2 ^ suc d) j ∙ pow-suc 2 d)
    ∙ mul-mod_left (2 ^ d) 2

low_other : (i j : ℕ) → (i ≡ j → ⊥) → low (2 ^ i) j ≡ 0
low_other i j n =
    elim (cases_order i j) [
      | inl e ↦ absurd (n e)
      | inr (inl h) ↦ ap (λ x. x % 2) (div-eq_of_lt (pow-lt h))
      | inr (inr h) ↦ let e : i ≡ suc (i - suc j) + j = omega arith in ap (λ x. low (2 ^ x) j) e ∙ low_above (i - suc j) j
    ]

pub bit_other : (i j : ℕ) → (i ≡ j → ⊥) → has_bit (2 ^ i) j ≡ false
bit_other i j n = ap (λ x. eqb x 1) (low_other i j n)
