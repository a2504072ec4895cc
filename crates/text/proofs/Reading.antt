-- Names and words at a place.
use Rattle.std.proofs.Common.{◌≡◌, ℕ, ◌+◌, ◌-◌, ◌<◌, ◌≤◌, true, false, List, [], ◌∷◌, ◌++◌, length, get_or, take, drop, None, sym, ap, ◌∙◌, subst, ⊎_elim, arith, take-append-drop}
use mathlib.Core.Bool.{false≢true}
use Rattle.std.proofs.lemmas.List.{drop_more, drop-drop, drop_all, get_or-drop, length-drop}
use Rattle.std.proofs.lemmas.Bool.{cases_lt}
use Rattle.std.proofs.lemmas.Bool.Decides.{nat_tests}
use Rattle.text.specs.declared.kind.Kind.TheVariants as kind
use Rattle.text.specs.Kinds.{kind_of}
use Rattle.text.specs.Names.{name_byte, Run}
use Rattle.text.specs.Words.{Token, opens, closes, named, negated, spelt, IsToken, Broken}
use Rattle.text.specs.Runs.{EndOfRun, NameAt, InnerAt}

-- the bytes from i to j, and what is left
pub part : (bs : List ℕ) (i j : ℕ) → i ≤ j → drop i bs ≡ take (j - i) (drop i bs) ++ drop j bs
part bs i j h =
    let k : i + (j - i) ≡ j = omega arith in
    sym (take-append-drop (j - i) (drop i bs)) ∙ ap (λ r. take (j - i) (drop i bs) ++ r) (drop-drop (j - i) i bs ∙ ap (λ n. drop n bs) k)

tilde_byte : (b : ℕ) → kind_of b ≡ kind.Tilde → b ≡ 126
tilde_byte b e = grind (arith, nat_tests)

module _ (bs : List ℕ) (a : ℕ) where
  -- the first byte of what is left
  head_is : (x : ℕ) (ys : List ℕ) → a < length bs → drop a bs ≡ x ∷ ys → get_or bs a 0 ≡ x
  head_is x ys h e = let d = drop_more bs a 0 h in cc

  tail_is : (x : ℕ) (ys : List ℕ) → a < length bs → drop a bs ≡ x ∷ ys → drop (a + 1) bs ≡ ys
  tail_is x ys h e = let d = drop_more bs a 0 h in cc

  no_head : (x : ℕ) (ys : List ℕ) → length bs ≤ a → drop a bs ≡ x ∷ ys → ⊥
  no_head x ys h e = let d = drop_all a bs h in let z : ◌≡◌ {A = ℕ} 0 1 = cc in omega arith

  run_head : (n rest : List ℕ) → Run n → drop a bs ≡ n ++ rest → (x : ℕ) × (ys : List ℕ) × (drop a bs ≡ x ∷ ys) × (name_byte x ≡ true)
  run_head [] rest (some, all) e = absurd (omega arith)
  run_head (x ∷ n) rest (some, all) e = (x, n ++ rest, e, all 0 (omega arith))

  -- a run that ends at e
  module _ (e : ℕ) (run : EndOfRun bs a e) where
    pub run_broken : Broken (drop e bs)
    run_broken h =
        let at : get_or (drop e bs) 0 0 ≡ get_or bs e 0 = get_or-drop e bs 0 0 ∙ ap (λ n. get_or bs n 0) (let q : e + 0 ≡ e = omega arith in q) in
        subst (λ b. name_byte b ≡ false) (sym at) (run.3 (let l = length-drop e bs in omega arith))

    pub run_none : e ≤ a → (n rest : List ℕ) → Run n → drop a bs ≡ n ++ rest → ⊥
    run_none h n rest r q =
        let (x, ys, is, good) = run_head n rest r q in
        ⊎_elim (λ l. false≢true (sym (run.3 (omega arith)) ∙ ap (λ k. name_byte (get_or bs k 0)) (let s : e ≡ a = omega arith in s) ∙ ap name_byte (head_is x ys l is) ∙ good)) (λ l. no_head x ys l is) (cases_lt a (length bs))

  -- a token's first byte
  pub token_head : (t : Token) (rest : List ℕ) → IsToken t → drop a bs ≡ spelt t ++ rest → (x : ℕ) × (ys : List ℕ) × (drop a bs ≡ x ∷ ys)
  token_head opens rest k e = (40, rest, e)
  token_head closes rest k e = (41, rest, e)
  token_head (named n) rest k e = let (x, ys, is, good) = run_head n rest k e in (x, ys, is)
  token_head (negated n) rest k e = (126, n ++ rest, e)

  pub inner_past : length bs ≤ a → InnerAt bs a None
  inner_past h t rest i k e f = let (x, ys, is) = token_head t rest k e in no_head x ys h is

  module _ (h : a < length bs) where
    pub never_none : kind_of (get_or bs a 0) ≡ kind.Tilde → NameAt bs (a + 1) None → InnerAt bs a None
    never_none k f opens rest i t e g = let q = head_is 40 rest h e in let s = tilde_byte (get_or bs a 0) k in omega arith
    never_none k f closes rest i t e g = i
    never_none k f (named n) rest i t e g =
        let (x, ys, is, good) = run_head n rest t e in
        let q = head_is x ys h is in
        let s = tilde_byte (get_or bs a 0) k in
        false≢true (ap name_byte (sym s ∙ q) ∙ good)
    never_none k f (negated n) rest i t e g = f n rest t (tail_is 126 (n ++ rest) h e)
