-- Numbers that count on, from one list to the next.
use Rattle.std.proofs.Common.{◌≡◌, ℕ, ◌+◌, ◌≤◌, List, [], ◌∷◌, ◌++◌, length, Some, None, Option, sym, refl, ap, ◌∙◌, subst, arith, length-append, MatchOption}
use Rattle.std.specs.List.{flat_map}
use Rattle.std.proofs.lemmas.List.{flat_map_more}
use Rattle.algebra.specs.declared.expr.Expr.{Expr}
use Rattle.algebra.specs.Expressions.{leaves}
use Rattle.algebra.specs.Rules.{Counts, NumberedOn, Next}

head_same : {m n : ℕ} {ms ns : List ℕ} → m ∷ ms ≡ n ∷ ns → m ≡ n
head_same e = cc

tail_same : {m n : ℕ} {ms ns : List ℕ} → m ∷ ms ≡ n ∷ ns → ms ≡ ns
tail_same e = cc

from_same : {a b : ℕ} (ns : List ℕ) → a ≡ b → Counts a ns → Counts b ns
from_same ns e h = subst (λ n. Counts n ns) e h

pub counts_join : (a : ℕ) (ns ms : List ℕ) → Counts a ns → Counts (a + length ns) ms → Counts a (ns ++ ms)
counts_join a [] ms h k = from_same ms (omega arith) k
counts_join a (n ∷ ns) ms h k =
    let rest = counts_join (a + 1) ns ms (tail_same h) (from_same ms (omega arith) k) in
    let first = head_same h in
    cc

pub counts_left : (a : ℕ) (ns ms : List ℕ) → Counts a (ns ++ ms) → Counts a ns
counts_left a [] ms h = refl
counts_left a (n ∷ ns) ms h =
    let rest = counts_left (a + 1) ns ms (tail_same h) in
    let first = head_same h in
    cc

pub counts_right : (a : ℕ) (ns ms : List ℕ) → Counts a (ns ++ ms) → Counts (a + length ns) ms
counts_right a [] ms h = from_same ms (omega arith) h
counts_right a (n ∷ ns) ms h = from_same ms (omega arith) (counts_right (a + 1) ns ms (tail_same h))

-- one rule more
leaves_push : (xs : List Expr) (x : Expr) → flat_map leaves xs ++ leaves x ≡ flat_map leaves (xs ++ (x ∷ []))
leaves_push xs x = flat_map_more leaves [] xs x

pub numbered_push : (xs : List Expr) (x : Expr) → NumberedOn xs → Counts (length (flat_map leaves xs)) (leaves x) → NumberedOn (xs ++ (x ∷ []))
numbered_push xs x h k =
    subst (Counts 0) (leaves_push xs x) (counts_join 0 (flat_map leaves xs) (leaves x) h (from_same (leaves x) (omega arith) k))

numbered_last : (xs : List Expr) (x : Expr) → NumberedOn (xs ++ (x ∷ [])) → Counts (length (flat_map leaves xs)) (leaves x)
numbered_last xs x h =
    from_same (leaves x) (omega arith) (counts_right 0 (flat_map leaves xs) (leaves x) (subst (Counts 0) (sym (leaves_push xs x)) h))

length_push_leaves : (xs : List Expr) (x : Expr) → length (flat_map leaves (xs ++ (x ∷ []))) ≡ length (flat_map leaves xs) + length (leaves x)
length_push_leaves xs x = ap length (sym (leaves_push xs x)) ∙ length-append (flat_map leaves xs) (leaves x)

-- what is said of numbers from `first` on: that they count, and what comes next
abbrev pub Said : ℕ → List ℕ → Option ℕ → Type 0
Said first ns r = MatchOption r (Counts first ns → ⊥) (λ next. Counts first ns × (next ≡ first + length ns) × (next ≤ 64))

-- two lists joined, of which the first does not count
pub first_fails : (first : ℕ) (ns ms : List ℕ) {all : List ℕ} (r : Option ℕ) → all ≡ ns ++ ms → r ≡ None → (Counts first ns → ⊥) → Said first all r
first_fails first ns ms {all} r e n f =
    subst (Said first all) (sym n) (λ h. f (counts_left first ns ms (subst (Counts first) e h)))

-- two lists joined, of which the first counts
pub both_count : (first : ℕ) (ns ms : List ℕ) {next : ℕ} {all : List ℕ} (r : Option ℕ) → all ≡ ns ++ ms → Counts first ns → next ≡ first + length ns → Said next ms r → Said first all r
both_count first ns ms {next} {all} None e h n f =
    λ k. f (from_same ms (sym n) (counts_right first ns ms (subst (Counts first) e k)))
both_count first ns ms {next} {all} (Some last) e h n (k, q, few) = (
  subst (Counts first) (sym e) (counts_join first ns ms h (from_same ms n k)),
  omega (arith, q, n, ap length e ∙ length-append ns ms),
  few,
)

-- what `numbers_on` says of a rule behind others
pub next_from_said : (xs : List Expr) (x : Expr) (first : ℕ) (r : Option ℕ) → NumberedOn xs → first ≡ length (flat_map leaves xs) → Said first (leaves x) r → Next xs x r
next_from_said xs x first None h e f = λ k. f (from_same (leaves x) (sym e) (numbered_last xs x k))
next_from_said xs x first (Some n) h e (k, is, few) =
    (numbered_push xs x h (from_same (leaves x) e k), (let l = length_push_leaves xs x in omega arith), few)
