-- Where a search of a text's bytes ends, by places of the whole text.
use Rattle.std.proofs.Common.{◌≡◌, ℕ, ◌+◌, ◌-◌, ◌<◌, ◌≤◌, Bool, true, false, cond, nat_lt, Option, None, Some, MatchOption, List, length, get_or, take, drop, sym, ◌∙◌, subst, arith, length-drop}
use Rattle.std.specs.List.{HoldsAt, AllWithin, position, position_or_len}
use Rattle.std.proofs.lemmas.List.Sums.{fails_before_first}
use Rattle.std.proofs.lemmas.List.Quantifiers.{position-Some}
use Rattle.std.proofs.lemmas.Bool.Decides.{nat_tests}
use Rattle.std.proofs.lemmas.List.{get_or-drop, take_all}
use Rattle.text.specs.Names.{name_byte}
use Rattle.text.specs.Runs.{EndOfRun}

not_first : (n l : ℕ) → cond (nat_lt n l) (Some n) None ≡ None → l ≤ n
not_first n l e = grind (arith, nat_tests)

module _ (bs : List ℕ) (a : ℕ) where
  -- r is how far behind place a the first byte stands for which Yes holds, where No holds of those before; absent if there is none
  abbrev pub Ended : (ℕ → Type 0) → (ℕ → Type 0) → Option ℕ → Type 0
  Ended Yes No r =
      MatchOption r (AllWithin No (drop a bs) 0 (length (drop a bs)))
      (λ i. (i < length (drop a bs)) × HoldsAt Yes (drop a bs) i × AllWithin No (drop a bs) 0 i)

  pub first_found : (test : ℕ → Bool) (r : Option ℕ) → r ≡ position test (drop a bs) → Ended (λ b. test b ≡ true) (λ b. test b ≡ false) r
  first_found test None e = λ k d low high.
      let past : length (drop a bs) ≤ position_or_len test (drop a bs) = not_first _ _ (sym e) in
      fails_before_first test (drop a bs) k d (omega arith)
  first_found test (Some i) e =
      let first = λ (d : ℕ). position-Some test (drop a bs) i d (sym e) in
      ((first 0).0, (λ d. (first d).1), (λ k d low high. (first d).2 k high))

  -- the bytes from place a to the end
  pub rest_is : (ys : List ℕ) → ys ≡ take (length bs - a) (drop a bs) → ys ≡ drop a bs
  rest_is ys e = e ∙ take_all (length bs - a) (drop a bs) (let l = length-drop a bs in omega arith)

  pub here : (Yes : ℕ → Type 0) (i : ℕ) → HoldsAt Yes (drop a bs) i → Yes (get_or bs (a + i) 0)
  here Yes i is = subst Yes (get_or-drop a bs i 0) (is 0)

  pub none_before : (No : ℕ → Type 0) (n : ℕ) → AllWithin No (drop a bs) 0 n → (k : ℕ) → a ≤ k → k < a + n → No (get_or bs k 0)
  none_before No n none k low high =
      let q : a + (k - a) ≡ k = omega arith in
      subst (λ j. No (get_or bs j 0)) q (here No (k - a) (λ d. none (k - a) d (omega arith) (omega arith)))

  pub run_first : a ≤ length bs → (r : Option ℕ) (e : ℕ) → Ended (λ b. name_byte b ≡ false) (λ b. name_byte b ≡ true) r → MatchOption r (e ≡ length bs) (λ i. e ≡ a + i) → EndOfRun bs a e
  run_first low None e none is =
      let l = length-drop a bs in
      (omega arith, omega arith, (λ k from to. none_before (λ b. name_byte b ≡ true) _ none k from (omega arith)), (λ lt. absurd (omega arith)))
  run_first low (Some i) e (within, here_is, none) is =
      let l = length-drop a bs in
      (omega arith, omega arith, (λ k from to. none_before (λ b. name_byte b ≡ true) i none k from (omega arith)), (λ lt. let P : ℕ → Type 0 = λ n. name_byte (get_or bs n 0) ≡ false in subst P (let q : a + i ≡ e = omega arith in q) (here (λ b. name_byte b ≡ false) i here_is)))
