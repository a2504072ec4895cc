-- Names found by their places.
use Rattle.std.proofs.Common.{◌≡◌, ℕ, ◌+◌, ◌≤◌, Bool, true, false, List, [], ◌∷◌, map, length, get_or, Some, None, refl, sym, ap, ◌∙◌, arith}
use mathlib.Core.Bool.{false≢true}
use Rattle.std.specs.Prelude.{nat_lt, cond, not}
use Rattle.std.specs.Borrow.{Bor}
use Rattle.std.specs.declared.option.Option.{Option}
use Rattle.std.specs.List.{position, position_or_len}
use Rattle.std.specs.Str.{bytes_eq}
use Rattle.std.proofs.lemmas.List.{length-map}
use Rattle.std.proofs.lemmas.List.Quantifiers.{position-Some}
use Rattle.std.proofs.lemmas.List.Sums.{fails_before_first}
use Rattle.std.proofs.lemmas.Slice.Eq.{bytes_eq-Decides}
use Rattle.report.specs.Texts.{Found}

first_map : {X : Type 0} (v : X → List ℕ) (p : List ℕ → Bool) (xs : List X) → position_or_len p (map v xs) ≡ position_or_len (λ x. p (v x)) xs
first_map v p [] = refl
first_map v p (x ∷ xs) = ap (λ n. cond (not (p (v x))) (1 + n) 0) (first_map v p xs)

position_map : {X : Type 0} (v : X → List ℕ) (p : List ℕ → Bool) (xs : List X) → position p (map v xs) ≡ position (λ x. p (v x)) xs
position_map v p xs =
    ap (λ i. cond (nat_lt i (length (map v xs))) (Some i) None) (first_map v p xs)
    ∙ ap (λ n. cond (nat_lt (position_or_len (λ x. p (v x)) xs) n) (Some (position_or_len (λ x. p (v x)) xs)) None) (length-map xs v)

all_before : (b : Bool) (i n : ℕ) → cond b (Some i) None ≡ None → b ≡ nat_lt i n → n ≤ i
all_before true i n e q = absurd (let z : ◌≡◌ {A = ℕ} 0 1 = cc in omega arith)
all_before false i n e q = grind arith

module _ (names : List (List ℕ)) (t : List ℕ) where
  abbrev p : List ℕ → Bool
  p n = bytes_eq n t

  -- the first name that is the text, among the names
  found : (r : Option ℕ) → r ≡ position p names → Found names t r
  found None e = λ k h q.
      let past = all_before (nat_lt (position_or_len p names) (length names)) (position_or_len p names) (length names) (sym e) refl in
      false≢true (sym (fails_before_first p names k [] (omega arith)) ∙ (bytes_eq-Decides (get_or names k []) t).1 q)
  found (Some k) e =
      let at = position-Some p names k [] (sym e) in
      (at.0, (bytes_eq-Decides (get_or names k []) t).0 at.1)

-- the names as references have them
pub found_here : (names : List (Bor (List ℕ))) (t : List ℕ) (r : Option ℕ) → r ≡ position (λ n. bytes_eq n.now t) names → Found (map (λ n. n.now) names) t r
found_here names t r e = found (map (λ n. n.now) names) t r (e ∙ sym (position_map (λ n. n.now) (λ n. bytes_eq n t) names))
