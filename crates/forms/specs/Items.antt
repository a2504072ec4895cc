-- What the lines of a flow file say, and how they are written. Assumes nothing.
--     grade_text g           the word of a grade
--     Declared               an event as it is declared: its name, and what a sheet tells of it
--     Item                   what one line says: it declares an event, or states a rule
--     forcibly b ts          the word that says that an event is forcible, if b, and then ts
--     item_words i           the words of the item i
--     FineItem i             the form of the item i is lawful: runs of bytes as names, and a rule's heads at most 8 deep,
--                            with 2 to 8 members each
--     render i               the bytes of the item i, without the line feed that ends its line
--     Comes s i              the item i may come next: events before rules, and an event first
--     Shaped s line feed i   the line says the item i, which may come next, and a line feed ends it, which feed says
use Rattle.std.specs.Prelude.{◌≡◌, ℕ, Bool, true, false, List, [], ◌∷◌, codes}
use Rattle.sheet.specs.declared.grade.Grade.{Grade}
use Rattle.sheet.specs.declared.grade.Grade.TheVariants.{Flexible, Inevitable, Immediate}
use Rattle.sheet.specs.declared.grade.Event.{Event}
use Rattle.text.specs.Names.{Run}
use Rattle.text.specs.Words.{Token, opens, closes, named, spells}
use Rattle.forms.specs.declared.line.Section.{Section}
use Rattle.forms.specs.declared.line.Section.TheVariants.{Start, Events, Rules}
use Rattle.forms.specs.Forms.{Form, words, Fine}

abbrev pub grade_text : Grade → List ℕ
grade_text Flexible = codes "flexible"
grade_text Inevitable = codes "inevitable"
grade_text Immediate = codes "immediate"

pub record Declared : Type 0 where
  pub name : List ℕ
  pub told : Event

pub data Item : Type 0 where
  event : Declared → Item
  rule : Form → Item

abbrev pub forcibly : Bool → List Token → List Token
forcibly true ts = named (codes "forcible") ∷ ts
forcibly false ts = ts

abbrev pub item_words : Item → List Token
item_words (event d) =
    opens ∷ (named (codes "event") ∷ (named d.name ∷ (named (grade_text d.told.grade) ∷ forcibly d.told.forcible (closes ∷ []))))
item_words (rule f) = opens ∷ (named (codes "rule") ∷ words f (closes ∷ []))

abbrev pub FineItem : Item → Type 0
FineItem (event d) = Run d.name
FineItem (rule f) = Fine f 8

abbrev pub render : Item → List ℕ
render i = spells true (item_words i)

abbrev pub Comes : Section → Item → Type 0
Comes Start (event d) = Unit {0}
Comes Start (rule f) = ⊥
Comes Events i = Unit {0}
Comes Rules (event d) = ⊥
Comes Rules (rule f) = Unit {0}

abbrev pub Shaped : Section → List ℕ → Bool → Item → Type 0
Shaped s line feed i = FineItem i × Comes s i × (line ≡ render i) × (feed ≡ true)
