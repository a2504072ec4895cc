-- Membership, and lists in which no number stands twice.
use Rattle.std.proofs.Common.{◌≡◌, ℕ, zero, suc, ◌+◌, ◌<◌, ◌≤◌, Bool, true, false, not, eqb, ◌==◌, ◌⊎◌, ◌↔◌, List, [], ◌∷◌, ◌++◌, map, length, get_or, MatchBool, sym, refl, ap, ◌∙◌, subst, inl, inr, ⊎_elim, arith}
use mathlib.Core.Bool.{false≢true}
use mathlib.Core.List.Memᴰ
use mathlib.Core.List.{Memᴰ}
use Rattle.std.specs.List.{range_with_len, AllByRecursion, IsDistinct, list_any}
use Rattle.std.proofs.lemmas.List.{map-append}
use Rattle.std.proofs.lemmas.Bool.{cases_Bool, eqb-true, eq-eqb, or_left, or_right, or_cases}
use Rattle.std.proofs.lemmas.Map.Keys.{IsDistinct-head, IsDistinct-tail, IsDistinct-cons}
use Rattle.algebra.specs.declared.literal.Literal.{Literal}
use Rattle.algebra.specs.Literals.{event_of, Once, IsTrace}

-- n does not stand in ns
abbrev pub Out : {X : Type 0} → X → List X → Type 0
Out n ns = Memᴰ n ns → ⊥

apart : (n m : ℕ) → eqb n m ≡ false → n ≡ m → ⊥
apart n m h e = false≢true (sym h ∙ eq-eqb n m e)

apart_test : (n m : ℕ) → (n ≡ m → ⊥) → eqb n m ≡ false
apart_test n m f = elim (cases_Bool (eqb n m)) [ inl e ↦ absurd (f (eqb-true n m e)) | inr e ↦ e ]

out_from_test : (n : ℕ) (ms : List ℕ) → AllByRecursion (λ m. eqb n m ≡ false) ms → Out n ms
out_from_test n [] h k = Memᴰ.not-nil k
out_from_test n (m ∷ ms) h k = ⊎_elim (apart n m h.0) (out_from_test n ms h.1) (Memᴰ.cases_cons k)

test_from_out : (n : ℕ) (ms : List ℕ) → Out n ms → AllByRecursion (λ m. eqb n m ≡ false) ms
test_from_out n [] f = tt
test_from_out n (m ∷ ms) f = (apart_test n m (λ e. f (Memᴰ.head e)), test_from_out n ms (λ k. f (Memᴰ.tail k)))

pub once_head : (n : ℕ) (ns : List ℕ) → Once (n ∷ ns) → Out n ns × Once ns
once_head n ns h = (out_from_test n ns (IsDistinct-head eqb n ns h), IsDistinct-tail eqb n ns h)

pub once_cons : (n : ℕ) (ns : List ℕ) → Out n ns → Once ns → Once (n ∷ ns)
once_cons n ns f h = IsDistinct-cons eqb n ns (test_from_out n ns f) h

pub once_nil : Once []
unfolding IsDistinct
once_nil = tt

-- two lists in which, together, no number stands twice
pub record Parted (ns ms : List ℕ) : Type 0 where
  pub left : Once ns
  pub right : Once ms
  pub across : (j : ℕ) → Memᴰ j ns → Out j ms

pub parted : (ns ms : List ℕ) → Once (ns ++ ms) → Parted ns ms
parted [] ms h = record { left = once_nil; right = h; across = λ j k. absurd (Memᴰ.not-nil k) }
parted (n ∷ ns) ms h =
    let p = once_head n (ns ++ ms) h in
    let q = parted ns ms p.1 in
    record {
      left = once_cons n ns (λ k. p.0 (Memᴰ.append_left ms k)) q.left;
      right = q.right;
      across = λ j k l. ⊎_elim (λ (e : j ≡ n). p.0 (Memᴰ.append_right ns (subst (λ i. Memᴰ i ms) e l))) (λ k'. q.across j k' l) (Memᴰ.cases_cons k);
    }

pub once_push : (ns : List ℕ) (n : ℕ) → Once ns → Out n ns → Once (ns ++ (n ∷ []))
once_push [] n h f = once_cons n [] f h
once_push (m ∷ ns) n h f =
    let p = once_head m ns h in
    once_cons m (ns ++ (n ∷ []))
    (λ k. ⊎_elim p.0 (λ l. f (Memᴰ.head (sym (only (Memᴰ.cases_cons l))))) (Memᴰ.append_cases ns k))
    (once_push ns n p.1 (λ k. f (Memᴰ.tail k)))
  where
    only : (m ≡ n) ⊎ Memᴰ m [] → m ≡ n
    only (inl e) = e
    only (inr k) = absurd (Memᴰ.not-nil k)

counting_from : (a n j : ℕ) → Memᴰ j (range_with_len a n) → a ≤ j
counting_from a zero j k = absurd (Memᴰ.not-nil k)
counting_from a (suc n) j k =
    ⊎_elim (λ (e : j ≡ a). omega arith) (λ l. omega (arith, counting_from (a + 1) n j l)) (Memᴰ.cases_cons k)

pub once_counting : (a n : ℕ) → Once (range_with_len a n)
once_counting a zero = once_nil
once_counting a (suc n) =
    once_cons a (range_with_len (a + 1) n) (λ k. let h = counting_from (a + 1) n a k in omega arith) (once_counting (a + 1) n)

pub mem_map : {X Y : Type 0} (f : X → Y) (x : X) (xs : List X) → Memᴰ x xs → Memᴰ (f x) (map f xs)
mem_map f x [] k = absurd (Memᴰ.not-nil k)
mem_map f x (y ∷ ys) k =
    ⊎_elim (λ e. Memᴰ.head (ap f e)) (λ l. Memᴰ.tail (mem_map f x ys l)) (Memᴰ.cases_cons k)

pub mem_get_or : {X : Type 0} (xs : List X) (i : ℕ) (d : X) → i < length xs → Memᴰ (get_or xs i d) xs
mem_get_or [] i d h = absurd (omega arith)
mem_get_or (x ∷ xs) zero d h = Memᴰ.head refl
mem_get_or (x ∷ xs) (suc i) d h = Memᴰ.tail (mem_get_or xs i d (omega arith))

-- whether `any` finds a number among those of a list
pub among : {X : Type 0} (f : X → ℕ) (n : ℕ) (xs : List X) (r : Bool) → r ≡ list_any (λ x. f x == n) xs → (r ≡ true) ↔ Memᴰ n (map f xs)
among f n [] r e = (λ h. absurd (false≢true (sym e ∙ h)), λ k. absurd (Memᴰ.not-nil k))
among f n (x ∷ xs) r e =
    let rest = among f n xs (list_any (λ y. f y == n) xs) refl in (
      λ h. ⊎_elim (λ q. Memᴰ.head (sym (eqb-true (f x) n q))) (λ q. Memᴰ.tail (rest.0 q)) (or_cases (f x == n) _ (sym e ∙ h)),
      λ k. e ∙ ⊎_elim (λ q. or_left (f x == n) _ (eq-eqb (f x) n (sym q))) (λ q. or_right (f x == n) _ (rest.1 q)) (Memᴰ.cases_cons k),
    )

-- one literal more is taken where its event does not stand in the trace yet
pub takes_from_settles : (w : List Literal) (l : Literal) (e : ℕ) (r : Bool) → IsTrace w → e ≡ event_of l → (r ≡ true) ↔ Memᴰ e (map event_of w) → MatchBool (not r) (IsTrace (w ++ (l ∷ [])) × Out (event_of l) (map event_of w)) (Memᴰ (event_of l) (map event_of w))
takes_from_settles w l e true h is k = subst (λ n. Memᴰ n (map event_of w)) is (k.0 refl)
takes_from_settles w l e false h is k =
    let out : Out (event_of l) (map event_of w) = λ m. false≢true (k.1 (subst (λ n. Memᴰ n (map event_of w)) (sym is) m)) in
    (subst Once (sym (map-append event_of w (l ∷ []))) (once_push (map event_of w) (event_of l) h out), out)
