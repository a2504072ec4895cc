-- How far a flow file was read. Assumes nothing.
--     Knows s ns           s has the names ns with their numbers, and no other name
--     Reached bs d p s     the file bs was read up to p, its lines say the draft d, and the names s are its names
--     grown d i            the draft d with the item i behind it
--     AfterEvent p n q     q is the progress p with one event more, where the next line begins at n
--     AfterRule p n k q    q is the progress p with one rule more, and k leaves in all, where the next line begins at n
--     Taking s p x t n r   asked to take the entry x at p, the reader answers r and leaves the names t, where it had s
--     GoesOn bs p          a line begins at p: bytes are left, or the file is empty
--     Stepped bs d a t r   the line at place a, behind those of the draft d, says an item that may be taken, or r is its fault; t are
--                          the names afterwards
use Rattle.std.specs.Prelude.{◌≡◌, ℕ, ◌+◌, ◌<◌, ◌≤◌, false, ◌⊎◌, List, [], ◌∷◌, ◌++◌, length, drop, Ok, Err, Result}
use Rattle.text.specs.Words.{closes}
use Rattle.forms.specs.declared.line.Section.TheVariants.{Events, Rules}
use Rattle.forms.specs.declared.line.Entry.{Entry}
use Rattle.forms.specs.declared.line.Entry.TheVariants as entry
use Rattle.forms.specs.Forms.{Form, words}
use Rattle.forms.specs.Items.{Item, event, rule}
use Rattle.forms.specs.Reads.{Left}
use Rattle.forms.specs.Entries.{Says}
use Rattle.accept.specs.declared.names.EventNames.{EventNames}
use Rattle.accept.specs.declared.counts.Progress.{Progress}
use Rattle.accept.specs.declared.counts.Step.{Step}
use Rattle.refusals.specs.declared.refusal.Fault.{Fault}
use Rattle.refusals.specs.declared.refusal.Refusal.{Refusal}
use Rattle.refusals.specs.declared.refusal.Refusal.TheVariants.{TooLong, Line}
use Rattle.accept.specs.Drafts.{Draft, names, leaf_count, rendered, section, Keeps}
use Rattle.accept.specs.Outcomes.{FirstFault}
use Rattle.accept.specs.Tallies.{known, Judged}
use Rattle.accept.specs.Naming.{entered, Declaring}
use Rattle.accept.specs.Drafts.{Found}

pub record Knows (s : EventNames) (ns : List (List ℕ)) : Type 0 where
  pub many : entered s ≡ length ns
  pub found : (n : List ℕ) → Found ns n (known s n)

pub record Reached (bs : List ℕ) (d : Draft) (p : Progress) (s : EventNames) : Type 0 where
  pub keeps : Keeps d
  pub text : bs ≡ rendered d ++ drop p.at bs
  pub within : p.at ≤ length bs
  pub line : p.line ≡ length d.declared + length d.rules + 1
  pub section_is : p.section ≡ section d
  pub events : p.events ≡ length d.declared
  pub rules : p.rules ≡ length d.rules
  pub leaves : p.leaves ≡ leaf_count d
  pub names_are : Knows s (names d)

abbrev pub grown : Draft → Item → Draft
grown d (event x) = record { declared = d.declared ++ (x ∷ []); rules = d.rules }
grown d (rule f) = record { declared = d.declared; rules = d.rules ++ (f ∷ []) }

pub record AfterEvent (p : Progress) (n : ℕ) (q : Progress) : Type 0 where
  pub at : q.at ≡ n
  pub line : q.line ≡ p.line + 1
  pub section_is : q.section ≡ Events
  pub events : q.events ≡ p.events + 1
  pub rules : q.rules ≡ p.rules
  pub leaves : q.leaves ≡ p.leaves

pub record AfterRule (p : Progress) (n k : ℕ) (q : Progress) : Type 0 where
  pub at : q.at ≡ n
  pub line : q.line ≡ p.line + 1
  pub section_is : q.section ≡ Rules
  pub events : q.events ≡ p.events
  pub rules : q.rules ≡ p.rules + 1
  pub leaves : q.leaves ≡ k

abbrev pub Taking : EventNames → Progress → Entry → EventNames → ℕ → Result Progress Fault → Type 0
Taking s p (entry.Event x) t n (Ok q) = Declaring s x.name.bytes.now p.events t (Ok tt) × AfterEvent p n q
Taking s p (entry.Event x) t n (Err k) = Declaring s x.name.bytes.now p.events t (Err k)
Taking s p (entry.Rule x) t n (Ok q) =
    (t ≡ s) × AfterRule p n q.leaves q
    × ((f : Form) → Left x.line.text.now x.at false (words f (closes ∷ [])) [] → Judged s f p.rules p.leaves (Ok q.leaves))
Taking s p (entry.Rule x) t n (Err k) =
    (t ≡ s) × ((f : Form) → Left x.line.text.now x.at false (words f (closes ∷ [])) [] → Judged s f p.rules p.leaves (Err k))

abbrev pub GoesOn : List ℕ → Progress → Type 0
GoesOn bs p = (p.at < length bs) ⊎ (bs ≡ [])

abbrev pub Stepped : List ℕ → Draft → ℕ → EventNames → Result Step Refusal → Type 0
Stepped bs d a t (Ok x) = (a < x.progress.at) × ((i : Item) × Says x.entry i × Reached bs (grown d i) x.progress t)
Stepped bs d a t (Err TooLong) = ⊥
Stepped bs d a t (Err (Line n k)) = FirstFault bs n k
