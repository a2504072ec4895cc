-- What the form reader answers of the parts of a line. Assumes nothing.
--     declaring n e            the words behind the word event that declare the event e with the name n
--     ForciblyAt bs a r        from place a on the line ends an event's declaration, forcible if r says so; absent if it does not
--     EventAt bs a r           r is the event that is declared from place a on, behind the word event, to the line's end; absent if none is
--     RuleAt l a r             r is the rule that is stated from place a of the line l on, behind the word rule, to its end; absent if none is
--     ItemOf l r               r is the item that the words of the line l say; absent if they say none
--     takes s x                the entry x may come next
--     LineSays s l r           r is the item that the line l says and that may come next; absent if it says none, or no line feed ends it
use Rattle.std.specs.Prelude.{◌≡◌, ℕ, Bool, true, false, List, [], ◌∷◌, Some, None, Option}
use Rattle.sheet.specs.declared.grade.Event.{Event}
use Rattle.text.specs.declared.line.Line.{Line}
use Rattle.text.specs.Files.{bytes_of}
use Rattle.text.specs.Words.{Token, closes, named, Written}
use Rattle.forms.specs.declared.line.Declaration.{Declaration}
use Rattle.forms.specs.declared.line.Passage.{Passage}
use Rattle.forms.specs.declared.line.Section.{Section}
use Rattle.forms.specs.declared.line.Section.TheVariants.{Start, Events, Rules}
use Rattle.forms.specs.declared.line.Entry.{Entry}
use Rattle.forms.specs.declared.line.Entry.TheVariants as entry
use Rattle.forms.specs.Forms.{Form, words, Fine}
use Rattle.forms.specs.Items.{grade_text, forcibly, Item, item_words, FineItem, Shaped}
use Rattle.forms.specs.Entries.{Says, Of}
use Rattle.forms.specs.Reads.{Left}

abbrev pub ForciblyAt : List ℕ → ℕ → Option Bool → Type 0
ForciblyAt bs a None = (b : Bool) → Left bs a false (forcibly b (closes ∷ [])) [] → ⊥
ForciblyAt bs a (Some b) = Left bs a false (forcibly b (closes ∷ [])) []

abbrev pub declaring : List ℕ → Event → List Token
declaring n e = named n ∷ (named (grade_text e.grade) ∷ forcibly e.forcible (closes ∷ []))

abbrev pub EventAt : List ℕ → ℕ → Option Declaration → Type 0
EventAt bs a None = (n : List ℕ) (e : Event) → Left bs a false (declaring n e) [] → ⊥
EventAt bs a (Some x) = Left bs a false (declaring x.name.bytes.now x.event) []

abbrev pub RuleAt : Line → ℕ → Option Passage → Type 0
RuleAt l a None = (f : Form) → Fine f 8 → Left l.text.now a false (words f (closes ∷ [])) [] → ⊥
RuleAt l a (Some x) =
    (x.line ≡ l) × (x.at ≡ a) × ((f : Form) × Fine f 8 × Left l.text.now a false (words f (closes ∷ [])) [])

abbrev pub ItemOf : Line → Option Entry → Type 0
ItemOf l None = (i : Item) → FineItem i → Written true (bytes_of l) (item_words i) [] → ⊥
ItemOf l (Some x) = (i : Item) × FineItem i × Written true (bytes_of l) (item_words i) [] × Says x i × Of l x

abbrev pub takes : Section → Entry → Bool
takes Start (entry.Event x) = true
takes Start (entry.Rule x) = false
takes Events (entry.Event x) = true
takes Events (entry.Rule x) = true
takes Rules (entry.Event x) = false
takes Rules (entry.Rule x) = true

abbrev pub LineSays : Section → Line → Option Entry → Type 0
LineSays s l None = (i : Item) → Shaped s (bytes_of l) l.ended i → ⊥
LineSays s l (Some x) = ((i : Item) × Shaped s (bytes_of l) l.ended i × Says x i) × Of l x
