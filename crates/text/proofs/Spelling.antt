-- The bytes of a line's words determine the words.
use Rattle.std.proofs.Common.{◌≡◌, ℕ, zero, suc, ◌<◌, Bool, true, false, ◌&&◌, List, [], ◌∷◌, ◌++◌, length, get_or, sym, refl, ap, ◌∙◌, subst, arith}
use mathlib.Core.Bool.{false≢true}
use Rattle.std.proofs.lemmas.Bool.{and_parts}
use Rattle.text.specs.Names.{name_byte, Run}
use Rattle.text.specs.Words.{Token, opens, closes, named, negated, spelt, IsToken, Broken, Ends, gap, is_open, Written, spells, Tokens, OneSpelling}
use Rattle.text.proofs.Tokens.{cons_head, cons_tail, nil_not_cons}

-- bytes that all stand in names
abbrev Inside : List ℕ → Type 0
Inside n = (k : ℕ) → k < length n → name_byte (get_or n k 0) ≡ true

-- names that are read as far as they go
munch : (n m r s : List ℕ) → Inside n → Inside m → Broken r → Broken s → n ++ r ≡ m ++ s → (n ≡ m) × (r ≡ s)
munch [] [] r s f g a b e = (refl, e)
munch [] (y ∷ m) r s f g a b e =
    let cut : name_byte (get_or r 0 0) ≡ false = a (subst (λ z. 0 < length z) (sym e) (omega arith)) in
    absurd (false≢true (sym cut ∙ ap (λ z. name_byte (get_or z 0 0)) e ∙ g 0 (omega arith)))
munch (x ∷ n) [] r s f g a b e =
    let cut : name_byte (get_or s 0 0) ≡ false = b (subst (λ z. 0 < length z) e (omega arith)) in
    absurd (false≢true (sym cut ∙ ap (λ z. name_byte (get_or z 0 0)) (sym e) ∙ f 0 (omega arith)))
munch (x ∷ n) (y ∷ m) r s f g a b e =
    let rest = munch n m r s (λ k h. f (suc k) (omega arith)) (λ k h. g (suc k) (omega arith)) a b (cons_tail e) in
    let first = cons_head e in
    ((let p = rest.0 in cc), rest.1)

-- a name does not begin with a byte that stands in none
no_name : (b : ℕ) (m r s : List ℕ) → name_byte b ≡ false → Run m → b ∷ r ≡ m ++ s → ⊥
no_name b [] r s out (some, all) e = absurd (omega arith)
no_name b (y ∷ m) r s out (some, all) e = false≢true (sym out ∙ ap name_byte (cons_head e) ∙ all 0 (omega arith))

-- two tokens where the same bytes begin
same_token : (t u : Token) (r s : List ℕ) → IsToken t → IsToken u → Ends t r → Ends u s → spelt t ++ r ≡ spelt u ++ s → (t ≡ u) × (r ≡ s)
same_token opens opens r s i j a b e = (refl, cons_tail e)
same_token opens closes r s i j a b e = absurd (let q = cons_head e in omega arith)
same_token opens (named m) r s i j a b e = absurd (no_name 40 m r s refl j e)
same_token opens (negated m) r s i j a b e = absurd (let q = cons_head e in omega arith)
same_token closes opens r s i j a b e = absurd (let q = cons_head e in omega arith)
same_token closes closes r s i j a b e = (refl, cons_tail e)
same_token closes (named m) r s i j a b e = absurd (no_name 41 m r s refl j e)
same_token closes (negated m) r s i j a b e = absurd (let q = cons_head e in omega arith)
same_token (named n) opens r s i j a b e = absurd (no_name 40 n s r refl i (sym e))
same_token (named n) closes r s i j a b e = absurd (no_name 41 n s r refl i (sym e))
same_token (named n) (named m) r s i j a b e = let p = munch n m r s i.1 j.1 a b e in (ap named p.0, p.1)
same_token (named n) (negated m) r s i j a b e = absurd (no_name 126 n (m ++ s) r refl i (sym e))
same_token (negated n) opens r s i j a b e = absurd (let q = cons_head e in omega arith)
same_token (negated n) closes r s i j a b e = absurd (let q = cons_head e in omega arith)
same_token (negated n) (named m) r s i j a b e = absurd (no_name 126 m (n ++ r) s refl j e)
same_token (negated n) (negated m) r s i j a b e = let p = munch n m r s i.1 j.1 a b (cons_tail e) in (ap negated p.0, p.1)

-- the same with gaps
pub same_gapped : (tight : Bool) (t u : Token) (r s : List ℕ) → IsToken t → IsToken u → Ends t r → Ends u s → gap tight t ++ (spelt t ++ r) ≡ gap tight u ++ (spelt u ++ s) → (t ≡ u) × (r ≡ s)
same_gapped true t u r s i j a b e = same_token t u r s i j a b e
same_gapped false closes closes r s i j a b e = (refl, cons_tail e)
same_gapped false closes opens r s i j a b e = absurd (let q = cons_head e in omega arith)
same_gapped false closes (named m) r s i j a b e = absurd (let q = cons_head e in omega arith)
same_gapped false closes (negated m) r s i j a b e = absurd (let q = cons_head e in omega arith)
same_gapped false opens closes r s i j a b e = absurd (let q = cons_head e in omega arith)
same_gapped false opens opens r s i j a b e = same_token opens opens r s i j a b (cons_tail e)
same_gapped false opens (named m) r s i j a b e = same_token opens (named m) r s i j a b (cons_tail e)
same_gapped false opens (negated m) r s i j a b e = same_token opens (negated m) r s i j a b (cons_tail e)
same_gapped false (named n) closes r s i j a b e = absurd (let q = cons_head e in omega arith)
same_gapped false (named n) opens r s i j a b e = same_token (named n) opens r s i j a b (cons_tail e)
same_gapped false (named n) (named m) r s i j a b e = same_token (named n) (named m) r s i j a b (cons_tail e)
same_gapped false (named n) (negated m) r s i j a b e = same_token (named n) (negated m) r s i j a b (cons_tail e)
same_gapped false (negated n) closes r s i j a b e = absurd (let q = cons_head e in omega arith)
same_gapped false (negated n) opens r s i j a b e = same_token (negated n) opens r s i j a b (cons_tail e)
same_gapped false (negated n) (named m) r s i j a b e = same_token (negated n) (named m) r s i j a b (cons_tail e)
same_gapped false (negated n) (negated m) r s i j a b e = same_token (negated n) (negated m) r s i j a b (cons_tail e)

-- behind a name the line goes on with a space or a bracket, or ends
gap_broken : (ts : List Token) → Broken (spells false ts)
gap_broken [] h = absurd (omega arith)
gap_broken (opens ∷ ts) h = refl
gap_broken (closes ∷ ts) h = refl
gap_broken (named n ∷ ts) h = refl
gap_broken (negated n ∷ ts) h = refl

pub words_end : (t : Token) (ts : List Token) → Ends t (spells (is_open t) ts)
words_end opens ts = tt
words_end closes ts = tt
words_end (named n) ts = gap_broken ts
words_end (negated n) ts = gap_broken ts

-- a token has bytes
pub begins : (tight : Bool) (t : Token) (r : List ℕ) → IsToken t → [] ≡ gap tight t ++ (spelt t ++ r) → ⊥
begins true opens r i e = nil_not_cons e
begins true closes r i e = nil_not_cons e
begins true (named []) r i e = absurd (let h = i.0 in omega arith)
begins true (named (x ∷ n)) r i e = nil_not_cons e
begins true (negated n) r i e = nil_not_cons e
begins false opens r i e = nil_not_cons e
begins false closes r i e = nil_not_cons e
begins false (named n) r i e = nil_not_cons e
begins false (negated n) r i e = nil_not_cons e

pub one_spelling : OneSpelling
one_spelling tight [] [] f g e = refl
one_spelling tight [] (u ∷ us) f g e = absurd (begins tight u (spells (is_open u) us) g.0 e)
one_spelling tight (t ∷ ts) [] f g e = absurd (begins tight t (spells (is_open t) ts) f.0 (sym e))
one_spelling tight (t ∷ ts) (u ∷ us) f g e =
    let p = same_gapped tight t u (spells (is_open t) ts) (spells (is_open u) us) f.0 g.0 (words_end t ts) (words_end u us) e in
    let same = p.0 in
    let rest = one_spelling (is_open t) ts us f.1 g.1 (p.1 ∙ ap (λ z. spells (is_open z) us) (sym same)) in
    cc

-- tokens to the end of some bytes
pub written_spells : (tight : Bool) (bs : List ℕ) (ts : List Token) → Written tight bs ts [] → bs ≡ spells tight ts
written_spells tight bs [] is = is
written_spells tight bs (t ∷ ts) (mid, (token, is, ends), rest) = is ∙ ap (λ z. gap tight t ++ (spelt t ++ z)) (written_spells (is_open t) mid ts rest)

pub spells_written : (tight : Bool) (ts : List Token) → Tokens ts → Written tight (spells tight ts) ts []
spells_written tight [] all = refl
spells_written tight (t ∷ ts) (token, all) = (spells (is_open t) ts, (token, refl, words_end t ts), spells_written (is_open t) ts all)

-- bytes that stand in names are a name
abbrev pub inside : List ℕ → Bool
inside [] = true
inside (x ∷ n) = name_byte x && inside n

inside_all : (n : List ℕ) → inside n ≡ true → Inside n
inside_all [] all k h = absurd (omega arith)
inside_all (x ∷ n) all zero h = (and_parts (name_byte x) (inside n) all).0
inside_all (x ∷ n) all (suc k) h = inside_all n (and_parts (name_byte x) (inside n) all).1 k (omega arith)

pub run_of : (n : List ℕ) → 0 < length n → inside n ≡ true → Run n
run_of n some all = (some, inside_all n all)
