-- What the flow reader answers of the leaves of a rule. Assumes nothing.
--     known s n                     the number of the event with the name n among the names s; absent if there is none
--     Constant n                    n is one of the words that name no event where they stand without `~`
--     Mentions ls n                 one of the leaves ls names the event n
--     leaf_of tight t               the leaf that the token t is, if it is one: a name right behind an opening bracket is a head
--     leaves_in tight ts            the leaves among the tokens ts
--     Tallied s ls t                the tally t is that of the leaves ls
--     Naming s n t u                u is the tally t with one leaf more, which names the event n
--     Lowest t r                    r is the fault of the lowest number that the names have, by the tally t
--     WellNamed s f, AllKnown s f   each name in the rule f is a name; each is that of an event, among the names s
--     Judged s f rules leaves r     r says how many leaves there are with those of the rule f, which follows so many rules and
--                                   leaves, or the fault of the lowest number from 4 on that it has
use Rattle.std.specs.Prelude.{◌≡◌, ℕ, ◌+◌, ◌<◌, ◌≤◌, Bool, true, false, ◌⊎◌, List, [], ◌∷◌, ◌++◌, length, None, Ok, Err, codes, MatchBool, Option, Result, ◌≢◌}
use mathlib.Core.List.{Memᴰ}
use Rattle.text.specs.Words.{Token, is_open}
use Rattle.text.specs.Words as token
use Rattle.forms.specs.Forms.{Form}
use Rattle.accept.specs.declared.names.EventNames.{EventNames}
use Rattle.accept.specs.declared.counts.Tally.{Tally}
use Rattle.refusals.specs.declared.refusal.Fault.{Fault}
use Rattle.refusals.specs.declared.refusal.Fault.TheVariants.{Byte, Shape, Name, Twice, Undeclared, TooMany}
use Rattle.accept.specs.Numbers.{numbered}
use Rattle.accept.specs.Drafts.{IsName, Leaf, bare, negated, leaves, LeafName, Names}

abbrev pub known : EventNames → List ℕ → Option ℕ
known s n = numbered s.slots n

abbrev pub Constant : List ℕ → Type 0
Constant n = (n ≡ codes "yes") ⊎ (n ≡ codes "no")

abbrev pub Mentions : List Leaf → List ℕ → Type 0
Mentions ls n = (l : Leaf) × Memᴰ l ls × LeafName l n

abbrev pub leaf_of : Bool → Token → List Leaf
leaf_of tight token.opens = []
leaf_of tight token.closes = []
leaf_of true (token.named n) = []
leaf_of false (token.named n) = bare n ∷ []
leaf_of tight (token.negated n) = negated n ∷ []

abbrev pub leaves_in : Bool → List Token → List Leaf
leaves_in tight [] = []
leaves_in tight (t ∷ ts) = leaf_of tight t ++ leaves_in (is_open t) ts

pub record Tallied (s : EventNames) (ls : List Leaf) (t : Tally) : Type 0 where
  pub leaves : t.leaves ≡ length ls
  pub misnamed : MatchBool t.misnamed ((n : List ℕ) × Mentions ls n × (IsName n → ⊥)) ((n : List ℕ) → Mentions ls n → IsName n)
  pub undeclared : MatchBool t.undeclared ((n : List ℕ) × Mentions ls n × (known s n ≡ None)) ((n : List ℕ) → Mentions ls n → known s n ≢ None)

pub record Naming (s : EventNames) (n : List ℕ) (t u : Tally) : Type 0 where
  pub leaves : u.leaves ≡ t.leaves + 1
  pub misnamed : ((IsName n → ⊥) × (u.misnamed ≡ true)) ⊎ (IsName n × (u.misnamed ≡ t.misnamed))
  pub undeclared : ((known s n ≡ None) × (u.undeclared ≡ true)) ⊎ ((known s n ≢ None) × (u.undeclared ≡ t.undeclared))

abbrev pub Lowest : Tally → Result (Unit {0}) Fault → Type 0
Lowest t (Ok done) = (t.misnamed ≡ false) × (t.undeclared ≡ false)
Lowest t (Err Byte) = ⊥
Lowest t (Err Shape) = ⊥
Lowest t (Err Name) = t.misnamed ≡ true
Lowest t (Err Twice) = ⊥
Lowest t (Err Undeclared) = (t.misnamed ≡ false) × (t.undeclared ≡ true)
Lowest t (Err TooMany) = ⊥

module _ (s : EventNames) (f : Form) where
  abbrev pub WellNamed : Type 0
  WellNamed = (n : List ℕ) → Names f n → IsName n

  abbrev pub AllKnown : Type 0
  AllKnown = (n : List ℕ) → Names f n → known s n ≢ None

  abbrev pub Judged : ℕ → ℕ → Result ℕ Fault → Type 0
  Judged rs ls (Ok k) = WellNamed × AllKnown × (rs < 16) × (k ≤ 64) × (k ≡ ls + length (leaves f))
  Judged rs ls (Err Byte) = ⊥
  Judged rs ls (Err Shape) = ⊥
  Judged rs ls (Err Name) = (n : List ℕ) × Names f n × (IsName n → ⊥)
  Judged rs ls (Err Twice) = ⊥
  Judged rs ls (Err Undeclared) = WellNamed × ((n : List ℕ) × Names f n × (known s n ≡ None))
  Judged rs ls (Err TooMany) = WellNamed × AllKnown × ((16 ≤ rs) ⊎ (64 < ls + length (leaves f)))
