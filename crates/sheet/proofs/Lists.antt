-- Lists that are equal place by place.
use Rattle.std.proofs.Common.{◌≡◌, ℕ, zero, suc, ◌<◌, Bool, true, false, ◌↔◌, List, [], ◌∷◌, length, get_or, MatchBool, refl, ap, ◌∙◌, subst, zero-add, arith}
use mathlib.Core.Bool.{false≢true}
use Rattle.std.specs.List.{range_with_len, slice_get, AllWithin, HoldsAt}
use Rattle.std.proofs.lemmas.List.FromFn.{length-range_with_len, get_or-range_with_len}

same_by_nth : {X : Type 0} (xs ys : List X) → length xs ≡ length ys → ((k : ℕ) → k < length xs → slice_get xs k ≡ slice_get ys k) → xs ≡ ys
same_by_nth [] [] l f = refl
same_by_nth [] (y ∷ ys) l f = absurd (omega arith)
same_by_nth (x ∷ xs) [] l f = absurd (omega arith)
same_by_nth (x ∷ xs) (y ∷ ys) l f =
    let first = f zero (omega arith) in
    let rest = same_by_nth xs ys (omega arith) (λ k h. f (suc k) (omega arith)) in
    cc

-- the test of each place by its number, as `all` over a range makes it
pub same_by_all : {X : Type 0} (xs ys : List X) (n : ℕ) (r : Bool) → n ≡ length xs → n ≡ length ys
    → MatchBool r (AllWithin (λ k. slice_get xs k ≡ slice_get ys k) (range_with_len 0 n) 0 (length (range_with_len 0 n)))
    ((k : ℕ) × (k < length (range_with_len 0 n)) × HoldsAt (λ k. slice_get xs k ≡ slice_get ys k → ⊥) (range_with_len 0 n) k)
    → (r ≡ true) ↔ (xs ≡ ys)
same_by_all xs ys n true h l all = (
  λ _. same_by_nth xs ys (omega arith) (λ k few. subst (λ i. slice_get xs i ≡ slice_get ys i) (get_or-range_with_len 0 n k 0 (omega arith) ∙ zero-add k) (all k 0 (omega arith) (omega (arith, length-range_with_len 0 n)))),
  λ _. refl,
)
same_by_all xs ys n false h l (k, few, not) = (λ e. absurd (false≢true e), λ e. absurd (not 0 (ap (λ zs. slice_get zs (get_or (range_with_len 0 n) k 0)) e)))
