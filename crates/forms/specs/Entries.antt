-- What the form reader answers of a whole line. Assumes nothing.
--     Says x i                 the entry x, which the reader found, is the item i
--     Of l x                   the entry x, if it is a rule, is a part of the line l
--     EntryAt bs a n s r       r is what the line of the file bs says that begins at place a and has the number n, in the section s,
--                              and where the next line begins; or that line's fault: a byte that stands in no flow file, or,
--                              if it has none, that it says no item that may come
use Rattle.std.specs.Prelude.{◌≡◌, ℕ, ◌+◌, false, List, [], ◌∷◌, length, Ok, Err, Result}
use Rattle.text.specs.Words.{closes}
use Rattle.text.specs.declared.line.Line.{Line}
use Rattle.text.specs.Files.{bytes_of, CutAt}
use Rattle.text.specs.Lines.{Strange}
use Rattle.forms.specs.declared.line.Section.{Section}
use Rattle.forms.specs.declared.line.Entry.{Entry}
use Rattle.forms.specs.declared.line.Entry.TheVariants as entry
use Rattle.forms.specs.declared.line.Read.{Read}
use Rattle.forms.specs.declared.line.FormFault.{FormFault}
use Rattle.forms.specs.declared.line.FormFault.TheVariants as fault
use Rattle.forms.specs.Forms.{words}
use Rattle.forms.specs.Items.{Item, event, rule, Shaped}
use Rattle.forms.specs.Reads.{Left}

-- a rule's expression stands at its place of the text, and the bracket behind it ends the line
abbrev pub Says : Entry → Item → Type 0
Says (entry.Event x) (event d) = (x.name.bytes.now ≡ d.name) × (x.event ≡ d.told)
Says (entry.Event x) (rule f) = ⊥
Says (entry.Rule x) (event d) = ⊥
Says (entry.Rule x) (rule f) = Left x.line.text.now x.at false (words f (closes ∷ [])) []

-- a rule keeps its line, whose text is the file's
abbrev pub Of : Line → Entry → Type 0
Of l (entry.Event x) = Unit {0}
Of l (entry.Rule x) = x.line ≡ l

abbrev pub EntryAt : List ℕ → ℕ → ℕ → Section → Result Read FormFault → Type 0
EntryAt bs a n s (Ok x) =
    (l : Line) × CutAt bs a n l × Of l x.entry × (Strange (bytes_of l) → ⊥)
    × ((i : Item) × Shaped s (bytes_of l) l.ended i × Says x.entry i) × (x.next ≡ length l.text.now + 1)
EntryAt bs a n s (Err (fault.Bytes f)) = (f.line ≡ n) × ((l : Line) × CutAt bs a n l × Strange (bytes_of l))
EntryAt bs a n s (Err (fault.Shape k)) =
    (k ≡ n)
    × ((l : Line) × CutAt bs a n l × (Strange (bytes_of l) → ⊥) × ((i : Item) → Shaped s (bytes_of l) l.ended i → ⊥))
