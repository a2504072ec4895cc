-- Tallies of leaves.
use Rattle.std.proofs.Common.{◌≡◌, ℕ, ◌+◌, ◌<◌, ◌≤◌, Bool, true, false, not, ◌⊎◌, List, [], ◌∷◌, ◌++◌, length, None, Ok, MatchBool, sym, refl, ap, ◌∙◌, subst, inl, inr, ⊎_elim, append_assoc, append-nil, length-append, Err}
use mathlib.Core.Bool.{false≢true}
use mathlib.Core.List.Memᴰ
use mathlib.Core.List.{Memᴰ}
use Rattle.text.specs.Words.{Token, token_of, is_open}
use Rattle.text.specs.Words as token
use Rattle.forms.specs.Forms.{Form, plain, never, group, Chain, last, more, words, chain}
use Rattle.accept.specs.declared.names.EventNames.{EventNames}
use Rattle.accept.specs.declared.counts.Tally.{Tally}
use Rattle.refusals.specs.declared.refusal.Fault.TheVariants.{TooMany}
use Rattle.accept.specs.Drafts.{IsName, Names, Leaf, bare, negated, leaves, leaves_of, LeafName}
use Rattle.accept.specs.Tallies.{known, Constant, Mentions, leaves_in, Tallied, Naming, Lowest, WellNamed, AllKnown, Judged}

pub when_cases : {P Q : Type 0} (b : Bool) → MatchBool b P Q → ((b ≡ true) × P) ⊎ ((b ≡ false) × Q)
when_cases true p = inl (refl, p)
when_cases false q = inr (refl, q)

when_join : {P Q : Type 0} (b : Bool) → ((b ≡ true) × P) ⊎ ((b ≡ false) × Q) → MatchBool b P Q
when_join true (inl (e, p)) = p
when_join true (inr (e, q)) = absurd (false≢true (sym e))
when_join false (inl (e, p)) = absurd (false≢true e)
when_join false (inr (e, q)) = q

module _ (s : EventNames) where
  -- one leaf more
  module _ (ls : List Leaf) (l : Leaf) where
    more_mentions : (n : List ℕ) → Mentions ls n → Mentions (ls ++ (l ∷ [])) n
    more_mentions n (k, at, is) = (k, Memᴰ.append_left (l ∷ []) at, is)

    last_mentions : (n : List ℕ) → LeafName l n → Mentions (ls ++ (l ∷ [])) n
    last_mentions n is = (l, Memᴰ.append_right ls (Memᴰ.head refl), is)

    mentions_cases : (n : List ℕ) → Mentions (ls ++ (l ∷ [])) n → Mentions ls n ⊎ LeafName l n
    mentions_cases n (k, at, is) =
        ⊎_elim (λ a. inl (k, a, is)) (λ a. inr (subst (λ x. LeafName x n) (Memᴰ.eq_of_singleton a) is)) (Memᴰ.append_cases ls at)

    longer : length (ls ++ (l ∷ [])) ≡ length ls + 1
    longer = length-append ls (l ∷ [])

  -- a leaf that names no event
  pub tallied_none : (ls : List Leaf) (l : Leaf) (t u : Tally) → ((n : List ℕ) → LeafName l n → ⊥) → Tallied s ls t → u.leaves ≡ t.leaves + 1 → u.misnamed ≡ t.misnamed → u.undeclared ≡ t.undeclared → Tallied s (ls ++ (l ∷ [])) u
  tallied_none ls l t u none h e m d =
      record {
        leaves = e ∙ ap (λ n. n + 1) h.leaves ∙ sym (longer ls l);
        misnamed = when_join u.misnamed
            (⊎_elim
            (λ (b, (n, at, bad)). inl ((m ∙ b), (n, more_mentions ls l n at, bad)))
            (λ (b, good). inr ((m ∙ b), (λ n at. ⊎_elim (good n) (λ is. absurd (none n is)) (mentions_cases ls l n at))))
            (when_cases t.misnamed h.misnamed));
        undeclared = when_join u.undeclared
            (⊎_elim
            (λ (b, (n, at, bad)). inl ((d ∙ b), (n, more_mentions ls l n at, bad)))
            (λ (b, good). inr ((d ∙ b), (λ n at. ⊎_elim (good n) (λ is. absurd (none n is)) (mentions_cases ls l n at))))
            (when_cases t.undeclared h.undeclared));
      }

  -- a leaf that names the event m
  pub tallied_name : (ls : List Leaf) (l : Leaf) (m : List ℕ) (t u : Tally) → LeafName l m → ((n : List ℕ) → LeafName l n → m ≡ n) → Tallied s ls t → Naming s m t u → Tallied s (ls ++ (l ∷ [])) u
  tallied_name ls l m t u names only h w =
      record {
        leaves = w.leaves ∙ ap (λ n. n + 1) h.leaves ∙ sym (longer ls l);
        misnamed = when_join u.misnamed
            (⊎_elim
            (λ (bad, b). inl (b, (m, last_mentions ls l m names, bad)))
            (λ (good, b).
            ⊎_elim
            (λ (e, (n, at, bad)). inl ((b ∙ e), (n, more_mentions ls l n at, bad)))
            (λ (e, all). inr ((b ∙ e), (λ n at. ⊎_elim (all n) (λ is. subst IsName (only n is) good) (mentions_cases ls l n at))))
            (when_cases t.misnamed h.misnamed))
            w.misnamed);
        undeclared = when_join u.undeclared
            (⊎_elim
            (λ (bad, b). inl (b, (m, last_mentions ls l m names, bad)))
            (λ (good, b).
            ⊎_elim
            (λ (e, (n, at, bad)). inl ((b ∙ e), (n, more_mentions ls l n at, bad)))
            (λ (e, all). inr ((b ∙ e), (λ n at. ⊎_elim (all n) (λ is. subst (λ k. known s k ≡ None → ⊥) (only n is) good) (mentions_cases ls l n at))))
            (when_cases t.undeclared h.undeclared))
            w.undeclared);
      }

  -- the leaf that a word is
  module _ (ls : List Leaf) (t : Tally) (h : Tallied s ls t) where
    pub with_none : (xs : List Leaf) → xs ≡ [] → Tallied s (ls ++ xs) t
    with_none xs e = subst (λ k. Tallied s k t) (sym (append-nil ls) ∙ ap (λ k. ls ++ k) (sym e)) h

    pub with_negated : (xs : List Leaf) (n : List ℕ) (u : Tally) → xs ≡ negated n ∷ [] → Naming s n t u → Tallied s (ls ++ xs) u
    with_negated xs n u e w = subst (λ k. Tallied s (ls ++ k) u) (sym e) (tallied_name ls (negated n) n t u refl (λ m q. q) h w)

    pub with_bare : (xs : List Leaf) (n : List ℕ) (u : Tally) → xs ≡ bare n ∷ [] → (Constant n → ⊥) → Naming s n t u → Tallied s (ls ++ xs) u
    with_bare xs n u e not w = subst (λ k. Tallied s (ls ++ k) u) (sym e) (tallied_name ls (bare n) n t u (refl, (λ q. not (inl q)), (λ q. not (inr q))) (λ m q. q.0) h w)

    pub with_constant : (xs : List Leaf) (n : List ℕ) → xs ≡ bare n ∷ [] → Constant n → Tallied s (ls ++ xs) (record { leaves = t.leaves + 1; misnamed = t.misnamed; undeclared = t.undeclared })
    with_constant xs n e is =
        subst (λ k. Tallied s (ls ++ k) (record { leaves = t.leaves + 1; misnamed = t.misnamed; undeclared = t.undeclared })) (sym e) (tallied_none ls (bare n) t _ (λ m (p, y, z). ⊎_elim (λ q. y (sym p ∙ q)) (λ q. z (sym p ∙ q)) is) h refl refl refl)

-- the leaves among the words of a form
mutual
  pub leaves_words : (f : Form) (ts : List Token) → leaves_in false (words f ts) ≡ leaves f ++ leaves_in false ts
  leaves_words (plain n) ts = refl
  leaves_words (never n) ts = refl
  leaves_words (group h f c) ts =
      leaves_words f (chain c ts) ∙ ap (λ z. leaves f ++ z) (leaves_chain c ts) ∙ sym (append_assoc (leaves f) (leaves_of c) (leaves_in false ts))

  leaves_chain : (c : Chain) (ts : List Token) → leaves_in false (chain c ts) ≡ leaves_of c ++ leaves_in false ts
  leaves_chain (last f) ts = leaves_words f (token.closes ∷ ts)
  leaves_chain (more f c) ts =
      leaves_words f (chain c ts) ∙ ap (λ z. leaves f ++ z) (leaves_chain c ts) ∙ sym (append_assoc (leaves f) (leaves_of c) (leaves_in false ts))

module _ (s : EventNames) (f : Form) (t : Tally) (h : Tallied s (leaves f) t) where
  well_named : t.misnamed ≡ false → WellNamed s f
  well_named e = ⊎_elim (λ p. absurd (false≢true (sym e ∙ p.0))) (λ p. p.1) (when_cases t.misnamed h.misnamed)

  all_known : t.undeclared ≡ false → AllKnown s f
  all_known e = ⊎_elim (λ p. absurd (false≢true (sym e ∙ p.0))) (λ p. p.1) (when_cases t.undeclared h.undeclared)

  module _ (rs ls : ℕ) where
    pub judged_crowded : Lowest t (Ok tt) → (16 ≤ rs) ⊎ (64 < ls + t.leaves) → Judged s f rs ls (Err TooMany)
    judged_crowded low much = (well_named low.0, all_known low.1, ⊎_elim (λ q. inl q) (λ q. inr (subst (λ n. 64 < ls + n) h.leaves q)) much)

    pub judged_fine : Lowest t (Ok tt) → (rs < 16) × (ls + t.leaves ≤ 64) → Judged s f rs ls (Ok (ls + t.leaves))
    judged_fine low fits = (well_named low.0, all_known low.1, fits.0, fits.1, ap (λ n. ls + n) h.leaves)
