-- Lines printed one after the other.
use Rattle.std.proofs.Common.{◌≡◌, ℕ, zero, suc, ◌+◌, ◌<◌, Bool, List, [], ◌∷◌, ◌++◌, length, Some, sym, refl, ap, ◌∙◌, subst, inl, inr, append_assoc, append-nil, arith, length-append}
use Rattle.std.specs.List.{slice_get}
use Rattle.std.proofs.lemmas.Bool.{cases_eq}
use Rattle.algebra.specs.declared.literal.Literal.{Literal}
use Rattle.algebra.specs.declared.expr.Expr.{Expr}
use Rattle.algebra.specs.Rules.{Answers}
use Rattle.report.specs.Lines.{rule_line, rule_lines}

lines_push : (k : ℕ) (bs : List Bool) (b : Bool) → rule_lines k (bs ++ (b ∷ [])) ≡ rule_lines k bs ++ rule_line (k + length bs) b
lines_push k [] b = append-nil _ ∙ ap (λ n. rule_line n b) (let q : k ≡ k + 0 = omega arith in q)
lines_push k (c ∷ bs) b =
    ap (λ t. rule_line k c ++ t) (lines_push (k + 1) bs b ∙ ap (λ n. rule_lines (k + 1) bs ++ rule_line n b) (let q : k + 1 + length bs ≡ k + length (c ∷ bs) = omega arith in q))
    ∙ sym (append_assoc (rule_line k c) (rule_lines (k + 1) bs) (rule_line (k + length (c ∷ bs)) b))

nth_before : (bs : List Bool) (b : Bool) (k : ℕ) → k < length bs → slice_get (bs ++ (b ∷ [])) k ≡ slice_get bs k
nth_before [] b k h = absurd (omega arith)
nth_before (c ∷ bs) b zero h = refl
nth_before (c ∷ bs) b (suc k) h = nth_before bs b k (omega arith)

nth_last : (bs : List Bool) (b : Bool) → slice_get (bs ++ (b ∷ [])) (length bs) ≡ Some b
nth_last [] b = refl
nth_last (c ∷ bs) b = nth_last bs b

-- the lines of the first n rules
pub record Printed (xs : List Expr) (w : List Literal) (n : ℕ) (text : List ℕ) : Type 0 where
  pub answers : List Bool
  pub many : length answers ≡ n
  pub right : (k : ℕ) → k < n → Answers xs w k (slice_get answers k)
  pub lines : text ≡ rule_lines 0 answers

module _ (xs : List Expr) (w : List Literal) (n : ℕ) (text : List ℕ) (old : Printed xs w n text) where
  pub printed_more : (b : Bool) (line next : List ℕ) → Answers xs w n (Some b) → line ≡ rule_line n b → next ≡ text ++ line → Printed xs w (n + 1) next
  printed_more b line next said is grown =
      let bs = old.answers in
      record {
        answers = bs ++ (b ∷ []);
        many = length-append bs (b ∷ []) ∙ ap (λ m. m + 1) old.many;
        right = λ k h. elim (cases_eq k n) [
          | inl e ↦ subst (λ m. Answers xs w m (slice_get (bs ++ (b ∷ [])) m)) (sym e) (subst (λ r. Answers xs w n r) (sym (nth_last bs b) ∙ ap (slice_get (bs ++ (b ∷ []))) old.many) said)
          | inr ne ↦ subst (Answers xs w k) (sym (nth_before bs b k (let m = old.many in omega arith))) (old.right k (omega arith))
        ];
        lines = grown ∙ ap (λ t. t ++ line) old.lines ∙ ap (λ t. rule_lines 0 bs ++ t) (is ∙ ap (λ m. rule_line m b) (let m = old.many in let q : n ≡ 0 + length bs = omega arith in q)) ∙ sym (lines_push 0 bs b);
      }
