-- The leaves of a rule, word by word.
use Rattle.std.proofs.Common.{◌≡◌, ℕ, ◌<◌, ◌≤◌, Bool, false, List, [], ◌∷◌, ◌++◌, length, drop, None, sym, ap, ◌∙◌, subst, append_assoc, append-nil, arith, length-drop}
use Rattle.std.proofs.lemmas.List.{drop_all}
use Rattle.text.specs.declared.placed.Placed.{Placed}
use Rattle.text.specs.Words.{Token, closes, token_of, is_open, Written}
use Rattle.text.specs.Places.{PlacedAt, WordAt}
use Rattle.text.proofs.Spelling.{same_gapped, begins}
use Rattle.forms.specs.Forms.{Form, words}
use Rattle.forms.specs.Reads.{Left}
use Rattle.accept.specs.declared.names.EventNames.{EventNames}
use Rattle.accept.specs.declared.counts.Tally.{Tally}
use Rattle.accept.specs.Drafts.{Leaf, leaves}
use Rattle.accept.specs.Tallies.{leaf_of, leaves_in, Tallied}
use Rattle.accept.proofs.Tallying.{leaves_words}

module _ (bs : List ℕ) (start : ℕ) (s : EventNames) where
  -- if tokens stand there to the line's end, those that are left and the tally of those before make up the leaves of all
  abbrev pub Seen : ℕ → Bool → Tally → Type 0
  Seen at tight t =
      (ts : List Token) → Left bs start false ts []
      → (us : List Token) × Left bs at tight us [] × ((seen : List Leaf) × (leaves_in false ts ≡ seen ++ leaves_in tight us) × Tallied s seen t)

  module _ (at : ℕ) (tight : Bool) (t : Tally) (inv : Seen at tight t) where
    -- nothing is left
    all_seen : (f : Form) (us : List Token) → length bs ≤ at → Left bs at tight us [] → (seen : List Leaf) → leaves_in false (words f (closes ∷ [])) ≡ seen ++ leaves_in tight us → Tallied s seen t → Tallied s (leaves f) t
    all_seen f [] h l seen is k =
        subst (λ z. Tallied s z t) (sym (sym (append-nil (leaves f)) ∙ sym (leaves_words f (closes ∷ [])) ∙ is ∙ append-nil seen)) k
    all_seen f (u ∷ us) h (mid, (token, e, ends), l) seen is k = absurd (begins tight u mid token (sym (drop_all at bs h) ∙ e))

    pub seen_all : length bs ≤ at → (f : Form) → Left bs start false (words f (closes ∷ [])) [] → Tallied s (leaves f) t
    seen_all h f l = let (us, left, (seen, is, k)) = inv (words f (closes ∷ [])) l in all_seen f us h left seen is k

    not_done : at < length bs → drop at bs ≡ [] → ⊥
    not_done h e = let n : length (drop at bs) ≡ 0 = ap length e in let m = length-drop at bs in omega arith

    stuck : at < length bs → PlacedAt tight bs at 0 None → (us : List Token) → Left bs at tight us [] → ⊥
    stuck h none [] l = not_done h l
    stuck h none (u ∷ us) (mid, stands, l) = none u mid stands

    pub seen_stuck : at < length bs → PlacedAt tight bs at 0 None → (f : Form) → Left bs start false (words f (closes ∷ [])) [] → Tallied s (leaves f) t
    seen_stuck h none f l = let (us, left, rest) = inv (words f (closes ∷ [])) l in absurd (stuck h none us left)

    module _ (n : ℕ) (x : Placed) (u : Tally) (b : Bool) (w : WordAt tight bs at n x) (more : (ls : List Leaf) → Tallied s ls t → Tallied s (ls ++ leaf_of tight (token_of x.word)) u) (opening : b ≡ is_open (token_of x.word)) (h : at < length bs) where
      abbrev here : Token
      here = token_of x.word

      on : (ts us : List Token) → Left bs at tight us [] → (seen : List Leaf) → leaves_in false ts ≡ seen ++ leaves_in tight us → Tallied s seen t
          → (vs : List Token) × Left bs x.end b vs [] × ((k : List Leaf) × (leaves_in false ts ≡ k ++ leaves_in b vs) × Tallied s k u)
      on ts [] l seen is k = absurd (not_done h l)
      on ts (v ∷ vs) (mid, (good, e, stops), l) seen is k =
          let p = same_gapped tight here v (drop x.end bs) mid w.stands.0 good w.stands.2 stops (sym w.stands.1 ∙ e) in
          let same : here ≡ v = p.0 in
          let way : b ≡ is_open v = opening ∙ ap is_open same in (
            vs,
            subst (λ m. Written b m vs []) (sym p.1) (subst (λ o. Written o mid vs []) (sym way) l),
            (
              seen ++ leaf_of tight here,
              is ∙ sym (append_assoc seen (leaf_of tight v) (leaves_in (is_open v) vs)) ∙ ap (λ z. (seen ++ leaf_of tight z) ++ leaves_in (is_open v) vs) (sym same) ∙ ap (λ o. (seen ++ leaf_of tight here) ++ leaves_in o vs) (sym way),
              more seen k,
            ),
          )

      pub seen_more : Seen x.end b u
      seen_more ts l = let (us, left, (seen, is, k)) = inv ts l in on ts us left seen is k
