-- The ends of lines that declare an event.
use Rattle.std.proofs.Common.{◌≡◌, ℕ, Bool, true, false, eqb, List, [], ◌∷◌, length, drop, Some, None, codes, MatchBool, sym, ap, subst, arith, length-drop}
use Rattle.std.proofs.lemmas.List.{drop_all}
use Rattle.std.proofs.lemmas.Bool.{eqb-true, eqb-false}
use Rattle.std.specs.Bool.{then_some}
use Rattle.sheet.specs.declared.grade.Grade.{Grade}
use Rattle.text.specs.Words.{closes, named, Stands}
use Rattle.forms.specs.Items.{grade_text, forcibly}
use Rattle.forms.specs.Reads.{Left, NameIs, CaseAt, CloseAt}
use Rattle.forms.specs.Tails.{ForciblyAt, EventAt}
use Rattle.forms.proofs.Steps.{left_to, left_from}
use Rattle.text.proofs.Tokens.{named_same}

module _ (bs : List ℕ) (a : ℕ) where
  -- the bracket at a ends at e, and the line too if e is its length
  pub ends_line : (e : ℕ) → CloseAt bs a (Some e) → (b : Bool) → eqb e (length bs) ≡ b → MatchBool b (Left bs a false (closes ∷ []) []) (Left bs a false (closes ∷ []) [] → ⊥)
  ends_line e (within, at) true is = (drop e bs, at, drop_all e bs (let q = eqb-true e (length bs) is in omega arith))
  ends_line e (within, at) false is = λ l.
      let gone : drop e bs ≡ [] = (left_from bs a false [] e closes closes [] at l).1 in
      eqb-false e (length bs) is (let n : length (drop e bs) ≡ 0 = ap length gone in let m = length-drop e bs in omega arith)

  pub forcible_none : (Left bs a false (closes ∷ []) [] → ⊥) → NameIs false bs a None → ForciblyAt bs a None
  forcible_none not none true (mid, stands, l) = none (codes "forcible") mid stands
  forcible_none not none false l = not l

  module _ (e : ℕ) (n : List ℕ) (stands : Stands false (drop a bs) (named n) (drop e bs)) where
    pub forcible_not : (Left bs a false (closes ∷ []) [] → ⊥) → (n ≡ codes "forcible" → Left bs e false (closes ∷ []) [] → ⊥) → ForciblyAt bs a None
    forcible_not not none true l = let p = left_from bs a false [] e (named n) (named (codes "forcible")) (closes ∷ []) stands l in none (sym (named_same p.0)) p.1
    forcible_not not none false l = not l

    -- the word forcible stands there, and the bracket behind it ends the line if b says so
    pub forcible_word : (Left bs a false (closes ∷ []) [] → ⊥) → n ≡ codes "forcible" → (b : Bool) → MatchBool b (Left bs e false (closes ∷ []) []) (Left bs e false (closes ∷ []) [] → ⊥) → ForciblyAt bs a (then_some b true)
    forcible_word not is true l = left_to bs a false [] e (named (codes "forcible")) (closes ∷ []) (subst (λ m. Stands false (drop a bs) (named m) (drop e bs)) is stands) l
    forcible_word not is false none = forcible_not not (λ _ l. none l)

    pub no_grade : CaseAt grade_text false bs e None → EventAt bs a None
    no_grade none m x l =
        let p = (left_from bs a false [] e (named n) (named m) (named (grade_text x.grade) ∷ forcibly x.forcible (closes ∷ [])) stands l).1 in
        none x.grade p.0 p.1

    pub no_ending : (g : Grade) (e2 : ℕ) → Stands false (drop e bs) (named (grade_text g)) (drop e2 bs) → ForciblyAt bs e2 None → EventAt bs a None
    no_ending g e2 graded none m x l =
        let p = (left_from bs a false [] e (named n) (named m) (named (grade_text x.grade) ∷ forcibly x.forcible (closes ∷ [])) stands l).1 in
        none x.forcible (left_from bs e false [] e2 (named (grade_text g)) (named (grade_text x.grade)) (forcibly x.forcible (closes ∷ [])) graded p).1
