-- The law of what is left on trees without words: a leaf is met, struck or waits for its literal.
use Rattle.std.proofs.Common.{◌≡◌, ℕ, Bool, true, false, cond, ◌&&◌, ◌||◌, eqb, ◌⊎◌, List, [], ◌∷◌, ◌++◌, map, fold, sym, refl, ap, ◌∙◌, subst, inl, inr, ⊎_elim, append_assoc, arith}
use mathlib.Core.Bool.{false≢true}
use mathlib.Core.List.Memᴰ
use mathlib.Core.List.{Memᴰ}
use Rattle.std.proofs.lemmas.Bool.{or_left, or_right, and_from, or_cases, and_parts, cond_both, eqb-true, eq-eqb, both_ways}
use Rattle.algebra.specs.declared.literal.Literal.{Literal}
use Rattle.algebra.specs.declared.literal.Literal.TheVariants.{Happened, Never}
use Rattle.algebra.specs.declared.expr.Head.{Head}
use Rattle.algebra.specs.declared.expr.Head.TheVariants.{Alt, All, Seq}
use Rattle.algebra.specs.Literals.{event_of, same, IsTrace}
use Rattle.algebra.proofs.Members.{Out, once_head, mem_map}

pub data Tree : Type 0 where
  met struck : Tree
  wait : Literal → Tree
  node : Head → Tree → Tree → Tree

abbrev pub MeetsT : Tree → List Literal → Type 0
MeetsT met w = Unit {0}
MeetsT struck w = ⊥
MeetsT (wait l) w = Memᴰ l w
MeetsT (node Alt a b) w = MeetsT a w ⊎ MeetsT b w
MeetsT (node All a b) w = MeetsT a w × MeetsT b w
MeetsT (node Seq a b) w = (u : List Literal) × (v : List Literal) × (w ≡ u ++ v) × MeetsT a u × MeetsT b v

abbrev pub done_t : Tree → Bool
done_t met = true
done_t struck = false
done_t (wait l) = false
done_t (node Alt a b) = done_t a || done_t b
done_t (node All a b) = done_t a && done_t b
done_t (node Seq a b) = done_t a && done_t b

abbrev pub strike_t : ℕ → Tree → Tree
strike_t e met = met
strike_t e struck = struck
strike_t e (wait l) = cond (eqb (event_of l) e) struck (wait l)
strike_t e (node h a b) = node h (strike_t e a) (strike_t e b)

abbrev pub apply_t : Tree → Literal → Tree
apply_t met k = met
apply_t struck k = struck
apply_t (wait l) k = cond (same l k) met (strike_t (event_of k) (wait l))
apply_t (node Alt a b) k = node Alt (apply_t a k) (apply_t b k)
apply_t (node All a b) k = node All (apply_t a k) (apply_t b k)
apply_t (node Seq a b) k = node Seq (apply_t a k) (cond (done_t a) (apply_t b k) (strike_t (event_of k) b))

-- the event e stands nowhere in w
abbrev Absent : ℕ → List Literal → Type 0
Absent e w = Out e (map event_of w)

absent_in : (l : Literal) (e : ℕ) (w : List Literal) → event_of l ≡ e → Absent e w → Memᴰ l w → ⊥
absent_in l e w p f h = f (subst (λ n. Memᴰ n (map event_of w)) p (mem_map event_of l w h))

absent_left : (e : ℕ) (u v : List Literal) → Absent e (u ++ v) → Absent e u
absent_left e [] v f = λ h. Memᴰ.not-nil h
absent_left e (k ∷ u) v f =
    λ h. ⊎_elim (λ q. f (Memᴰ.head q)) (absent_left e u v (λ g. f (Memᴰ.tail g))) (Memᴰ.cases_cons h)

absent_right : (e : ℕ) (u v : List Literal) → Absent e (u ++ v) → Absent e v
absent_right e [] v f = f
absent_right e (k ∷ u) v f = absent_right e u v (λ g. f (Memᴰ.tail g))

nil_not_cons : {x : Literal} {w : List Literal} → [] ≡ x ∷ w → ⊥
nil_not_cons e = let z : ◌≡◌ {A = ℕ} 0 1 = cc in omega arith

nil_cut : (a b : Tree) (u v : List Literal) → [] ≡ u ++ v → MeetsT a u → MeetsT b v → MeetsT a [] × MeetsT b []
nil_cut a b [] [] e h k = (h, k)
nil_cut a b [] (x ∷ v) e h k = absurd (nil_not_cons e)
nil_cut a b (x ∷ u) v e h k = absurd (nil_not_cons e)

-- what the empty list meets is fulfilled
pub nil_done : (t : Tree) → MeetsT t [] → done_t t ≡ true
nil_done met h = refl
nil_done struck h = absurd h
nil_done (wait l) h = absurd (Memᴰ.not-nil h)
nil_done (node Alt a b) (inl h) = or_left _ _ (nil_done a h)
nil_done (node Alt a b) (inr h) = or_right _ _ (nil_done b h)
nil_done (node All a b) (h, k) = and_from _ _ (nil_done a h) (nil_done b k)
nil_done (node Seq a b) (u, v, e, h, k) =
    let n = nil_cut a b u v e h k in
    and_from _ _ (nil_done a n.0) (nil_done b n.1)

-- what is fulfilled, every list meets
pub done_meets : (t : Tree) → done_t t ≡ true → (w : List Literal) → MeetsT t w
done_meets met d w = tt
done_meets struck d w = absurd (false≢true d)
done_meets (wait l) d w = absurd (false≢true d)
done_meets (node Alt a b) d w =
    elim (or_cases (done_t a) (done_t b) d) [ inl h ↦ inl (done_meets a h w) | inr h ↦ inr (done_meets b h w) ]
done_meets (node All a b) d w =
    let n = and_parts (done_t a) (done_t b) d in (done_meets a n.0 w, done_meets b n.1 w)
done_meets (node Seq a b) d w =
    let n = and_parts (done_t a) (done_t b) d in ([], w, refl, done_meets a n.0 [], done_meets b n.1 w)

-- a list that is longer at the front meets no less
more : (t : Tree) (p w : List Literal) → MeetsT t w → MeetsT t (p ++ w)
more met p w h = tt
more struck p w h = h
more (wait l) p w h = Memᴰ.append_right p h
more (node Alt a b) p w (inl h) = inl (more a p w h)
more (node Alt a b) p w (inr h) = inr (more b p w h)
more (node All a b) p w (h, k) = (more a p w h, more b p w k)
more (node Seq a b) p w (u, v, e, h, k) =
    (p ++ u, v, ap (λ x. p ++ x) e ∙ sym (append_assoc p u v), more a p u h, k)

-- to strike an event that does not come changes nothing of what is met
strike_to : (t : Tree) (e : ℕ) (w : List Literal) → Absent e w → MeetsT t w → MeetsT (strike_t e t) w
strike_to met e w f h = tt
strike_to struck e w f h = h
strike_to (wait l) e w f h =
    cond_both (eqb (event_of l) e) struck (wait l) (λ t. MeetsT t w)
    (λ q. absurd (absent_in l e w (eqb-true (event_of l) e q) f h)) (λ _. h)
strike_to (node Alt a b) e w f (inl h) = inl (strike_to a e w f h)
strike_to (node Alt a b) e w f (inr h) = inr (strike_to b e w f h)
strike_to (node All a b) e w f (h, k) = (strike_to a e w f h, strike_to b e w f k)
strike_to (node Seq a b) e w f (u, v, c, h, k) =
    let g = subst (Absent e) c f in
    (u, v, c, strike_to a e u (absent_left e u v g) h, strike_to b e v (absent_right e u v g) k)

strike_from : (t : Tree) (e : ℕ) (w : List Literal) → MeetsT (strike_t e t) w → MeetsT t w
strike_from met e w h = tt
strike_from struck e w h = h
strike_from (wait l) e w h =
    cond_both (eqb (event_of l) e) struck (wait l) (λ t. MeetsT t w → Memᴰ l w) (λ _ z. absurd z) (λ _ z. z) h
strike_from (node Alt a b) e w (inl h) = inl (strike_from a e w h)
strike_from (node Alt a b) e w (inr h) = inr (strike_from b e w h)
strike_from (node All a b) e w (h, k) = (strike_from a e w h, strike_from b e w k)
strike_from (node Seq a b) e w (u, v, c, h, k) = (u, v, c, strike_from a e u h, strike_from b e v k)

same_self : (l : Literal) → same l l ≡ true
same_self (Happened e) = eq-eqb e e refl
same_self (Never e) = eq-eqb e e refl

same_eq : (k l : Literal) → same k l ≡ true → k ≡ l
same_eq (Happened d) (Happened e) h = ap Happened (eqb-true d e h)
same_eq (Happened d) (Never e) h = absurd (false≢true h)
same_eq (Never d) (Happened e) h = absurd (false≢true h)
same_eq (Never d) (Never e) h = ap Never (eqb-true d e h)

-- a leaf that waits, at one literal
wait_to : (l k : Literal) (w : List Literal) → Absent (event_of k) w → Memᴰ l (k ∷ w) → MeetsT (apply_t (wait l) k) w
wait_to l k w f h =
    cond_both (same l k) met (strike_t (event_of k) (wait l)) (λ t. MeetsT t w) (λ _. tt)
    (λ n. ⊎_elim (λ e. absurd (both_ways _ n (subst (λ z. same l z ≡ true) e (same_self l)))) (strike_to (wait l) (event_of k) w f) (Memᴰ.cases_cons h))

wait_from : (l k : Literal) (w : List Literal) → MeetsT (apply_t (wait l) k) w → Memᴰ l (k ∷ w)
wait_from l k w =
    cond_both (same l k) met (strike_t (event_of k) (wait l)) (λ t. MeetsT t w → Memᴰ l (k ∷ w))
    (λ e _. Memᴰ.head (same_eq l k e)) (λ _ h. Memᴰ.tail (strike_from (wait l) (event_of k) w h))

cons_head : {x y : Literal} {u v : List Literal} → x ∷ u ≡ y ∷ v → x ≡ y
cons_head e = cc

cons_tail : {x y : Literal} {u v : List Literal} → x ∷ u ≡ y ∷ v → u ≡ v
cons_tail e = cc

module _ (a b : Tree) (k : Literal) (w : List Literal) where
  abbrev First : Type 0
  First = (u : List Literal) → Absent (event_of k) u → MeetsT a (k ∷ u) → MeetsT (apply_t a k) u

  -- where the first part was not fulfilled, the cut lies behind the literal
  seq_to_late : Absent (event_of k) w → First → done_t a ≡ false → (u v : List Literal) → k ∷ w ≡ u ++ v → MeetsT a u → MeetsT b v → MeetsT (node Seq (apply_t a k) (strike_t (event_of k) b)) w
  seq_to_late f first n [] v e h g = absurd (both_ways _ n (nil_done a h))
  seq_to_late f first n (x ∷ u) v e h g =
      let t = cons_tail e in
      let f' = subst (Absent (event_of k)) t f in
      (u, v, t, first u (absent_left _ u v f') (subst (λ z. MeetsT a (z ∷ u)) (sym (cons_head e)) h), strike_to b (event_of k) v (absent_right _ u v f') g)

  seq_to : Absent (event_of k) w → First → (MeetsT b (k ∷ w) → MeetsT (apply_t b k) w) → MeetsT (node Seq a b) (k ∷ w) → MeetsT (apply_t (node Seq a b) k) w
  seq_to f first second (u, v, e, h, g) =
      cond_both (done_t a) (apply_t b k) (strike_t (event_of k) b) (λ t. MeetsT (node Seq (apply_t a k) t) w)
      (λ d. ([], w, refl, first [] (λ z. Memᴰ.not-nil z) (done_meets a d (k ∷ [])), second (subst (MeetsT b) (sym e) (more b u v g))))
      (λ n. seq_to_late f first n u v e h g)

  seq_from : ((u : List Literal) → MeetsT (apply_t a k) u → MeetsT a (k ∷ u)) → (MeetsT (apply_t b k) w → MeetsT b (k ∷ w)) → MeetsT (apply_t (node Seq a b) k) w → MeetsT (node Seq a b) (k ∷ w)
  seq_from first second =
      cond_both (done_t a) (apply_t b k) (strike_t (event_of k) b) (λ t. MeetsT (node Seq (apply_t a k) t) w → MeetsT (node Seq a b) (k ∷ w))
      (λ d (u, v, e, h, g). ([], k ∷ w, refl, done_meets a d [], second (subst (MeetsT (apply_t b k)) (sym e) (more (apply_t b k) u v g))))
      (λ n (u, v, e, h, g). (k ∷ u, v, ap (λ z. k ∷ z) e, first u h, strike_from b (event_of k) v g))

-- one literal: the law for a list that goes on without its event
step_to : (t : Tree) (k : Literal) (w : List Literal) → Absent (event_of k) w → MeetsT t (k ∷ w) → MeetsT (apply_t t k) w
step_to met k w f h = tt
step_to struck k w f h = h
step_to (wait l) k w f h = wait_to l k w f h
step_to (node Alt a b) k w f (inl h) = inl (step_to a k w f h)
step_to (node Alt a b) k w f (inr h) = inr (step_to b k w f h)
step_to (node All a b) k w f (h, g) = (step_to a k w f h, step_to b k w f g)
step_to (node Seq a b) k w f h = seq_to a b k w f (λ u f' h'. step_to a k u f' h') (λ h'. step_to b k w f h') h

step_from : (t : Tree) (k : Literal) (w : List Literal) → MeetsT (apply_t t k) w → MeetsT t (k ∷ w)
step_from met k w h = tt
step_from struck k w h = h
step_from (wait l) k w h = wait_from l k w h
step_from (node Alt a b) k w (inl h) = inl (step_from a k w h)
step_from (node Alt a b) k w (inr h) = inr (step_from b k w h)
step_from (node All a b) k w (h, g) = (step_from a k w h, step_from b k w g)
step_from (node Seq a b) k w h = seq_from a b k w (λ u h'. step_from a k u h') (λ h'. step_from b k w h') h

-- what is left after u is met by v exactly if the whole is met by u then v
pub left_to : (u v : List Literal) (t : Tree) → IsTrace (u ++ v) → MeetsT t (u ++ v) → MeetsT (fold apply_t t u) v
left_to [] v t r h = h
left_to (k ∷ u) v t r h =
    let p = once_head (event_of k) (map event_of (u ++ v)) r in left_to u v (apply_t t k) p.1 (step_to t k (u ++ v) p.0 h)

pub left_from : (u v : List Literal) (t : Tree) → MeetsT (fold apply_t t u) v → MeetsT t (u ++ v)
left_from [] v t h = h
left_from (k ∷ u) v t h = step_from t k (u ++ v) (left_from u v (apply_t t k) h)
