-- One word of a line at a time.
use Rattle.std.proofs.Common.{◌≡◌, ℕ, Bool, List, ◌∷◌, drop, None, sym, refl, ◌∙◌, subst, arith}
use Rattle.text.specs.Words.{Token, Stands, is_open, Written}
use Rattle.text.specs.Runs.{NextAt}
use Rattle.text.proofs.Tokens.{cons_head, cons_tail}
use Rattle.text.proofs.Spelling.{same_gapped}
use Rattle.algebra.specs.declared.expr.Head.{Head}
use Rattle.algebra.specs.declared.expr.Head.TheVariants.{Alt, All, Seq}
use Rattle.forms.specs.Forms.{head_text}
use Rattle.forms.specs.Reads.{Left}

module _ (bs : List ℕ) (a : ℕ) (tight : Bool) (o : List ℕ) where
  pub left_to : (e : ℕ) (t : Token) (ts : List Token) → Stands tight (drop a bs) t (drop e bs) → Left bs e (is_open t) ts o → Left bs a tight (t ∷ ts) o
  left_to e t ts stands l = (drop e bs, stands, l)

  pub left_from : (e : ℕ) (t u : Token) (us : List Token) → Stands tight (drop a bs) t (drop e bs) → Left bs a tight (u ∷ us) o → (u ≡ t) × Left bs e (is_open t) us o
  left_from e t u us (token, is, ends) (mid, (good, was, stops), l) =
      let p = same_gapped tight t u (drop e bs) mid token good ends stops (sym is ∙ was) in
      (sym p.0, subst (λ m. Written (is_open t) m us o) (sym p.1) (subst (λ z. Written (is_open z) mid us o) (sym p.0) l))

  pub left_none : (u : Token) (us : List Token) → NextAt tight bs a None → Left bs a tight (u ∷ us) o → ⊥
  left_none u us none (mid, stands, l) = none u mid stands

-- one word stands at a place
pub stands_only : (tight : Bool) (bs : List ℕ) (t u : Token) (r o : List ℕ) → Stands tight bs t r → Stands tight bs u o → (u ≡ t) × (r ≡ o)
stands_only tight bs t u r o (token, is, ends) (good, was, stops) =
    let p = same_gapped tight t u r o token good ends stops (sym is ∙ was) in (sym p.0, p.1)

pub head_same : (k h : Head) → head_text k ≡ head_text h → k ≡ h
head_same Alt Alt e = refl
head_same Alt All e = absurd (let q = cons_head (cons_tail (cons_tail e)) in omega arith)
head_same Alt Seq e = absurd (let q = cons_head e in omega arith)
head_same All Alt e = absurd (let q = cons_head (cons_tail (cons_tail e)) in omega arith)
head_same All All e = refl
head_same All Seq e = absurd (let q = cons_head e in omega arith)
head_same Seq Alt e = absurd (let q = cons_head e in omega arith)
head_same Seq All e = absurd (let q = cons_head e in omega arith)
head_same Seq Seq e = refl
