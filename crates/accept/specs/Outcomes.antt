-- What becomes of a flow file. Assumes nothing.
--     Holds i n                the item i holds the name n: an event's own, or one that a leaf names
--     OneTooMany d i           with the item i there would be 13 events, 17 rules or 65 leaves
--     LineSays d line tail i   the line that follows the draft d says the item i, and a line feed ends it
--     Faulty d line tail k     the line that follows the draft d, and that tail follows, has the fault k, by its number:
--                              2 a byte stands in no flow file; 3 it says no item that may come; 4 a name in it is no name;
--                              5 it declares an event again; 6 a name in it is not declared above; 7 it is event 13 or rule 17,
--                              or has leaf 65
--     FirstFault bs n k        line n, counted from 1, is the first faulty line of bs: the lines before it are those of a draft that
--                              keeps the conditions, and k is its fault of the lowest number. A file ends behind its last line
--                              feed, but an empty file has one line, which is empty
--     Outcome                  a file is accepted, and says a draft, or it is refused
--     ComesTo bs o             the outcome of the file bs is o
--     OneOutcome               a file has one outcome at most
use Rattle.std.specs.Prelude.{◌≡◌, ℕ, ◌+◌, ◌<◌, ◌≤◌, ◌⊎◌, List, [], ◌++◌, length}
use Rattle.text.specs.Lines.{FirstLine, ended, Strange}
use Rattle.forms.specs.Forms.{Form}
use Rattle.forms.specs.Items.{Declared, Item, event, rule, Shaped}
use Rattle.refusals.specs.declared.refusal.Fault.{Fault}
use Rattle.refusals.specs.declared.refusal.Fault.TheVariants.{Byte, Shape, Name, Twice, Undeclared, TooMany}
use Rattle.refusals.specs.declared.refusal.Refusal.{Refusal}
use Rattle.refusals.specs.declared.refusal.Refusal.TheVariants.{TooLong, Line}
use Rattle.refusals.specs.Refusals.{fault_number}
use Rattle.accept.specs.Drafts.{IsName, leaves, Names, Draft, leaf_count, rendered, section, Declares, Keeps}

abbrev pub Holds : Item → List ℕ → Type 0
Holds (event x) n = x.name ≡ n
Holds (rule f) n = Names f n

abbrev pub OneTooMany : Draft → Item → Type 0
OneTooMany d (event x) = 12 ≤ length d.declared
OneTooMany d (rule f) = (16 ≤ length d.rules) ⊎ (64 < leaf_count d + length (leaves f))

module _ (d : Draft) (line tail : List ℕ) where
  abbrev pub LineSays : Item → Type 0
  LineSays i = Shaped (section d) line (ended tail) i

  abbrev pub Faulty : Fault → Type 0
  Faulty Byte = Strange line
  Faulty Shape = (i : Item) → LineSays i → ⊥
  Faulty Name = (i : Item) × LineSays i × ((n : List ℕ) × Holds i n × (IsName n → ⊥))
  Faulty Twice = (x : Declared) × LineSays (event x) × Declares d x.name
  Faulty Undeclared = (f : Form) × LineSays (rule f) × ((n : List ℕ) × Names f n × (Declares d n → ⊥))
  Faulty TooMany = (i : Item) × LineSays i × OneTooMany d i

pub record FirstFault (bs : List ℕ) (n : ℕ) (k : Fault) : Type 0 where
  pub before : Draft
  pub keeps : Keeps before
  pub rest : List ℕ
  pub follows : bs ≡ rendered before ++ rest
  pub there : (0 < length rest) ⊎ (bs ≡ [])
  pub line : List ℕ
  pub tail : List ℕ
  pub cut : FirstLine rest line tail
  pub number : n ≡ length before.declared + length before.rules + 1
  pub faulty : Faulty before line tail k
  pub lowest : (j : Fault) → fault_number j < fault_number k → Faulty before line tail j → ⊥

pub data Outcome : Type 0 where
  accepted : Draft → Outcome
  refused : Refusal → Outcome

abbrev pub ComesTo : List ℕ → Outcome → Type 0
ComesTo bs (accepted d) = (length bs ≤ 16384) × (bs ≡ rendered d) × Keeps d × (0 < length d.declared)
ComesTo bs (refused TooLong) = 16384 < length bs
ComesTo bs (refused (Line n k)) = (length bs ≤ 16384) × FirstFault bs n k

abbrev pub OneOutcome : Type 0
OneOutcome = (bs : List ℕ) (o p : Outcome) → ComesTo bs o → ComesTo bs p → o ≡ p
