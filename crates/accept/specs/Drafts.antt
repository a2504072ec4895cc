-- What a flow file says, and the conditions that it keeps. Assumes nothing.
--     reserved, Reserved n          the eleven words that are no names; n is one of them
--     IsName n                      n is a name: 1 to 16 letters, digits and hyphens, a letter first, and not reserved
--     Leaf                          a leaf as it is written: a word, or a word behind `~`
--     leaves f                      the leaves of the form f, as written
--     LeafName l n                  the leaf l names the event n: every leaf does, but the words yes and no without `~`
--     Names f n                     some leaf of the form f names the event n
--     Draft                         what a file says: the events that it declares, and its rules
--     names d, leaf_count d         the names of its events; how many leaves its rules have together
--     event_line x, rule_line f     the bytes of a line, with its line feed
--     rendered d                    the bytes of the draft d: a line for each event and then for each rule, a line feed behind each
--     section_of xs fs, section d   how far a file has come that says d
--     Declares d n                  the draft d declares an event with the name n
--     Apart ns                      no name stands twice in ns
--     Found ns n r                  r is the number of the name n among ns; absent if it is not among them
--     Keeps d                       the draft d keeps every condition of a flow
use Rattle.std.specs.Prelude.{◌≡◌, ℕ, ◌<◌, ◌≤◌, List, [], ◌∷◌, ◌++◌, map, length, Some, None, codes, Option, ◌≢◌, slice_index}
use mathlib.Core.List.{Memᴰ}
use Rattle.std.specs.List.{slice_get, flat_map}
use Rattle.text.specs.declared.kind.Kind.TheVariants.{Letter}
use Rattle.text.specs.Kinds.{kind_of}
use Rattle.text.specs.Names.{Run}
use Rattle.forms.specs.declared.line.Section.{Section}
use Rattle.forms.specs.declared.line.Section.TheVariants.{Start, Events, Rules}
use Rattle.forms.specs.Forms.{Form, plain, never, group, Chain, last, more}
use Rattle.forms.specs.Items.{Declared, event, rule, FineItem, render}

abbrev pub reserved : List (List ℕ)
reserved =
    codes "event" ∷ (codes "rule" ∷ (codes "alt" ∷ (codes "all" ∷ (codes "seq" ∷ (codes "yes" ∷ (codes "no"
    ∷ (codes "flexible" ∷ (codes "inevitable" ∷ (codes "immediate" ∷ (codes "forcible" ∷ []))))))))))

abbrev pub Reserved : List ℕ → Type 0
Reserved n = Memᴰ n reserved

pub record IsName (n : List ℕ) : Type 0 where
  pub run : Run n
  pub short : length n ≤ 16
  pub begun : kind_of (slice_index n 0) ≡ Letter
  pub free : Reserved n → ⊥

pub data Leaf : Type 0 where
  bare negated : List ℕ → Leaf

abbrev mutual
  pub leaves : Form → List Leaf
  leaves (plain n) = bare n ∷ []
  leaves (never n) = negated n ∷ []
  leaves (group h f c) = leaves f ++ leaves_of c

  pub leaves_of : Chain → List Leaf
  leaves_of (last f) = leaves f
  leaves_of (more f c) = leaves f ++ leaves_of c

abbrev pub LeafName : Leaf → List ℕ → Type 0
LeafName (bare m) n = (m ≡ n) × (n ≢ codes "yes") × (n ≢ codes "no")
LeafName (negated m) n = m ≡ n

abbrev pub Names : Form → List ℕ → Type 0
Names f n = (l : Leaf) × Memᴰ l (leaves f) × LeafName l n

pub record Draft : Type 0 where
  pub declared : List Declared
  pub rules : List Form

abbrev pub names : Draft → List (List ℕ)
names d = map (λ x. x.name) d.declared

abbrev pub leaf_count : Draft → ℕ
leaf_count d = length (flat_map leaves d.rules)

abbrev pub event_line : Declared → List ℕ
event_line x = render (event x) ++ (10 ∷ [])

abbrev pub rule_line : Form → List ℕ
rule_line f = render (rule f) ++ (10 ∷ [])

abbrev pub rendered : Draft → List ℕ
rendered d = flat_map event_line d.declared ++ flat_map rule_line d.rules

abbrev pub section_of : List Declared → List Form → Section
section_of [] rs = Start
section_of (x ∷ xs) [] = Events
section_of (x ∷ xs) (f ∷ fs) = Rules

abbrev pub section : Draft → Section
section d = section_of d.declared d.rules

abbrev pub Declares : Draft → List ℕ → Type 0
Declares d n = Memᴰ n (names d)

abbrev pub Apart : List (List ℕ) → Type 0
Apart [] = Unit {0}
Apart (n ∷ ns) = (Memᴰ n ns → ⊥) × Apart ns

abbrev pub Found : List (List ℕ) → List ℕ → Option ℕ → Type 0
Found ns n None = Memᴰ n ns → ⊥
Found ns n (Some e) = slice_get ns e ≡ Some n

pub record Keeps (d : Draft) : Type 0 where
  pub few_events : length d.declared ≤ 12
  pub few_rules : length d.rules ≤ 16
  pub few_leaves : leaf_count d ≤ 64
  pub event_first : 0 < length d.rules → 0 < length d.declared
  pub named : (n : List ℕ) → Declares d n → IsName n
  pub apart : Apart (names d)
  pub shaped : (f : Form) → Memᴰ f d.rules → FineItem (rule f)
  pub known : (f : Form) → Memᴰ f d.rules → (n : List ℕ) → Names f n → Declares d n
