-- Lists by their first element, and tokens by their words.
use Rattle.std.proofs.Common.{◌≡◌, ℕ, List, [], ◌∷◌, refl, arith}
use Rattle.text.specs.declared.name.NameRun.{NameRun}
use Rattle.text.specs.declared.word.Word.{Word}
use Rattle.text.specs.declared.word.Word.TheVariants.{Open, Close, Name, Never}
use Rattle.text.specs.Words.{token_of, opens, named, negated}

pub cons_head : {X : Type 0} {x y : X} {xs ys : List X} → x ∷ xs ≡ y ∷ ys → x ≡ y
cons_head e = cc

pub cons_tail : {X : Type 0} {x y : X} {xs ys : List X} → x ∷ xs ≡ y ∷ ys → xs ≡ ys
cons_tail e = cc

pub nil_not_cons : {X : Type 0} {x : X} {xs : List X} → [] ≡ x ∷ xs → ⊥
nil_not_cons e = let z : ◌≡◌ {A = ℕ} 0 1 = cc in omega arith

pub apart : ◌≡◌ {A = ℕ} 0 1 → ⊥
apart e = omega arith

pub named_same : {m n : List ℕ} → named m ≡ named n → m ≡ n
named_same e = cc

pub negated_same : {m n : List ℕ} → negated m ≡ negated n → m ≡ n
negated_same e = cc

pub token_open : (w : Word) → opens ≡ token_of w → w ≡ Open
token_open Open e = refl
token_open Close e = absurd (apart (cc))
token_open (Name n) e = absurd (apart (cc))
token_open (Never n) e = absurd (apart (cc))

pub token_name : (w : Word) (n : List ℕ) → named n ≡ token_of w → (m : NameRun) × (w ≡ Name m)
token_name Open n e = absurd (apart (cc))
token_name Close n e = absurd (apart (cc))
token_name (Name m) n e = (m, refl)
token_name (Never m) n e = absurd (apart (cc))
