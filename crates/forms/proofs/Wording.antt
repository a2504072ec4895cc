-- Items and their words.
use Rattle.std.proofs.Common.{◌≡◌, ℕ, ◌-◌, Bool, true, false, List, [], ◌∷◌, codes, sym, refl, ap, ◌∙◌, subst, arith}
use Rattle.algebra.specs.declared.expr.Head.{Head}
use Rattle.algebra.specs.declared.expr.Head.TheVariants.{Alt, All, Seq}
use Rattle.sheet.specs.declared.grade.Grade.{Grade}
use Rattle.sheet.specs.declared.grade.Grade.TheVariants.{Flexible, Inevitable, Immediate}
use Rattle.text.specs.Names.{Run}
use Rattle.text.specs.Words.{Token, closes, Tokens, Inner}
use Rattle.text.proofs.Spelling.{one_spelling, run_of}
use Rattle.forms.specs.Forms.{head_text, Form, plain, never, group, Chain, last, more, words, chain, Fine, Fines}
use Rattle.forms.specs.Items.{grade_text, Declared, Item, event, rule, forcibly, item_words, FineItem, render}
use Rattle.forms.proofs.Steps.{head_same}
use Rattle.text.proofs.Tokens.{cons_head, cons_tail, named_same, negated_same, apart}
use Rattle.forms.proofs.Parsing.{chain_first}

run_head : (h : Head) → Run (head_text h)
run_head Alt = run_of (codes "alt") (omega arith) refl
run_head All = run_of (codes "all") (omega arith) refl
run_head Seq = run_of (codes "seq") (omega arith) refl

run_grade : (g : Grade) → Run (grade_text g)
run_grade Flexible = run_of (codes "flexible") (omega arith) refl
run_grade Inevitable = run_of (codes "inevitable") (omega arith) refl
run_grade Immediate = run_of (codes "immediate") (omega arith) refl

-- the words of a form are tokens
mutual
  words_tokens : (f : Form) (d : ℕ) (ts : List Token) → Fine f d → Tokens ts → Tokens (words f ts)
  words_tokens (plain n) d ts fine all = (fine, all)
  words_tokens (never n) d ts fine all = (fine, all)
  words_tokens (group h f c) d ts (pos, fine, fines) all = (tt, (run_head h, words_tokens f (d - 1) (chain c ts) fine (chain_tokens c (d - 1) 7 ts fines all)))

  chain_tokens : (c : Chain) (d n : ℕ) (ts : List Token) → Fines c d n → Tokens ts → Tokens (chain c ts)
  chain_tokens (last f) d n ts (pos, fine) all = words_tokens f d (closes ∷ ts) fine (tt, all)
  chain_tokens (more f c) d n ts (pos, fine, fines) all = words_tokens f d (chain c ts) fine (chain_tokens c d (n - 1) ts fines all)

forcibly_tokens : (b : Bool) (ts : List Token) → Tokens ts → Tokens (forcibly b ts)
forcibly_tokens true ts all = (run_of (codes "forcible") (omega arith) refl, all)
forcibly_tokens false ts all = all

pub item_tokens : (i : Item) → FineItem i → Tokens (item_words i)
item_tokens (event x) run = (tt, (run_of (codes "event") (omega arith) refl, (run, (run_grade x.told.grade, forcibly_tokens x.told.forcible (closes ∷ []) (tt, tt)))))
item_tokens (rule f) fine = (tt, (run_of (codes "rule") (omega arith) refl, words_tokens f 8 (closes ∷ []) fine (tt, tt)))

-- the words of a form determine it
mutual
  words_same : (f g : Form) (ts us : List Token) → words f ts ≡ words g us → (f ≡ g) × (ts ≡ us)
  words_same (plain n) (plain m) ts us e = (ap plain (named_same (cons_head e)), cons_tail e)
  words_same (plain n) (never m) ts us e = absurd (apart (cc))
  words_same (plain n) (group h g c) ts us e = absurd (apart (cc))
  words_same (never n) (plain m) ts us e = absurd (apart (cc))
  words_same (never n) (never m) ts us e = (ap never (negated_same (cons_head e)), cons_tail e)
  words_same (never n) (group h g c) ts us e = absurd (apart (cc))
  words_same (group h f c) (plain m) ts us e = absurd (apart (cc))
  words_same (group h f c) (never m) ts us e = absurd (apart (cc))
  words_same (group h f c) (group k g b) ts us e =
      let same = head_same h k (named_same (cons_head (cons_tail e))) in
      let p = words_same f g (chain c ts) (chain b us) (cons_tail (cons_tail e)) in
      let q = chain_same c b ts us p.1 in
      ((let x = p.0 in let y = q.0 in cc), q.1)

  chain_same : (c b : Chain) (ts us : List Token) → chain c ts ≡ chain b us → (c ≡ b) × (ts ≡ us)
  chain_same (last f) (last g) ts us e = let p = words_same f g (closes ∷ ts) (closes ∷ us) e in (ap last p.0, cons_tail p.1)
  chain_same (last f) (more g b) ts us e =
      let p = words_same f g (closes ∷ ts) (chain b us) e in
      let (u, vs, is, inner) = chain_first b us in
      absurd (subst Inner (sym (cons_head (p.1 ∙ is))) inner)
  chain_same (more f c) (last g) ts us e =
      let p = words_same f g (chain c ts) (closes ∷ us) e in
      let (u, vs, is, inner) = chain_first c ts in
      absurd (subst Inner (cons_head (sym is ∙ p.1)) inner)
  chain_same (more f c) (more g b) ts us e =
      let p = words_same f g (chain c ts) (chain b us) e in
      let q = chain_same c b ts us p.1 in
      ((let x = p.0 in let y = q.0 in cc), q.1)

pub grade_same : (g h : Grade) → grade_text g ≡ grade_text h → g ≡ h
grade_same Flexible Flexible e = refl
grade_same Flexible Inevitable e = absurd (let q = cons_head e in omega arith)
grade_same Flexible Immediate e = absurd (let q = cons_head e in omega arith)
grade_same Inevitable Flexible e = absurd (let q = cons_head e in omega arith)
grade_same Inevitable Inevitable e = refl
grade_same Inevitable Immediate e = absurd (let q = cons_head (cons_tail e) in omega arith)
grade_same Immediate Flexible e = absurd (let q = cons_head e in omega arith)
grade_same Immediate Inevitable e = absurd (let q = cons_head (cons_tail e) in omega arith)
grade_same Immediate Immediate e = refl

forcibly_same : (b c : Bool) → forcibly b (closes ∷ []) ≡ forcibly c (closes ∷ []) → b ≡ c
forcibly_same true true e = refl
forcibly_same true false e = absurd (apart (cc))
forcibly_same false true e = absurd (apart (cc))
forcibly_same false false e = refl

abbrev declared : List ℕ → Grade → Bool → Declared
declared n g b = record { name = n; told = record { grade = g; forcible = b } }

-- `event` and `rule` are two words
pub words_apart : codes "event" ≡ codes "rule" → ⊥
words_apart e = let q = cons_head e in omega arith

item_same : (i j : Item) → item_words i ≡ item_words j → i ≡ j
item_same (event x) (event y) e =
    let ns : x.name ≡ y.name = named_same (cons_head (cons_tail (cons_tail e))) in
    let gs : x.told.grade ≡ y.told.grade = grade_same x.told.grade y.told.grade (named_same (cons_head (cons_tail (cons_tail (cons_tail e))))) in
    let bs : x.told.forcible ≡ y.told.forcible = forcibly_same x.told.forcible y.told.forcible (cons_tail (cons_tail (cons_tail (cons_tail e)))) in
    ap event (ap (λ n. declared n x.told.grade x.told.forcible) ns ∙ ap (λ g. declared y.name g x.told.forcible) gs ∙ ap (λ b. declared y.name y.told.grade b) bs)
item_same (event x) (rule g) e = absurd (words_apart (named_same (cons_head (cons_tail e))))
item_same (rule f) (event y) e = absurd (words_apart (sym (named_same (cons_head (cons_tail e)))))
item_same (rule f) (rule g) e = ap rule (words_same f g (closes ∷ []) (closes ∷ []) (cons_tail (cons_tail e))).0

-- a line says one item at most
pub one_item : (i j : Item) → FineItem i → FineItem j → render i ≡ render j → i ≡ j
one_item i j fi fj e = item_same i j (one_spelling true (item_words i) (item_words j) (item_tokens i fi) (item_tokens j fj) e)
