-- A whole flow file.
use Rattle.std.proofs.Common.{◌≡◌, ℕ, zero, suc, ◌<◌, ◌≤◌, ◌⊎◌, List, [], ◌∷◌, ◌++◌, length, get_or, drop, replicate, Some, None, Option, Ok, sym, refl, ap, ◌∙◌, subst, inl, inr, append-nil, arith, length-append}
use mathlib.Core.List.Memᴰ
use Rattle.std.proofs.lemmas.List.{drop_all}
use Rattle.slots.specs.declared.slot.Entry.{Entry}
use Rattle.forms.specs.declared.line.Section.TheVariants.{Start}
use Rattle.forms.specs.Items.{Item, event, rule}
use Rattle.accept.specs.declared.key.NameKey.{NameKey}
use Rattle.accept.specs.declared.names.EventNames.{EventNames}
use Rattle.accept.specs.declared.counts.Progress.{Progress}
use Rattle.accept.specs.declared.counts.Step.{Step}
use Rattle.accept.specs.Drafts.{Draft, rendered, Keeps}
use Rattle.accept.specs.Steps.{Knows, Reached, grown, GoesOn, Stepped}
use Rattle.slots.specs.Maps.{Valid}
use Rattle.accept.specs.Keys.{same_name, name_hash}
use Rattle.accept.specs.Numbers.{numbered, Few}

abbrev pub nothing : Draft
nothing = record { declared = []; rules = [] }

keeps_nothing : Keeps nothing
keeps_nothing =
    record {
      few_events = omega arith;
      few_rules = omega arith;
      few_leaves = omega arith;
      event_first = λ h. absurd (omega arith);
      named = λ n m. absurd (Memᴰ.not-nil m);
      apart = tt;
      shaped = λ f m. absurd (Memᴰ.not-nil m);
      known = λ f m. absurd (Memᴰ.not-nil m);
    }

module _ (bs : List ℕ) (p : Progress) where
  pub begun : (s : EventNames) → (p.at ≡ 0) × (p.line ≡ 1) × (p.section ≡ Start) × (p.events ≡ 0) × (p.rules ≡ 0) × (p.leaves ≡ 0) → Knows s [] → Reached bs nothing p s
  begun s (at, line, section, events, rules, leaves) knows =
      record {
        keeps = keeps_nothing;
        text = ap (λ n. drop n bs) (sym at);
        within = omega arith;
        line = line;
        section_is = section;
        events = events;
        rules = rules;
        leaves = leaves;
        names_are = knows;
      }

begins : (bs : List ℕ) → (0 < length bs) ⊎ (bs ≡ [])
begins [] = inr refl
begins (b ∷ bs) = inl (omega arith)

pub goes_on : (bs : List ℕ) (p : Progress) → p.at ≡ 0 → GoesOn bs p
goes_on bs p at = subst (λ n. (n < length bs) ⊎ (bs ≡ [])) (sym at) (begins bs)

-- a draft with one item more has an event
has_event : (d : Draft) (i : Item) → Keeps (grown d i) → 0 < length (grown d i).declared
has_event d (event x) k = let q = length-append d.declared (x ∷ []) in omega arith
has_event d (rule f) k = k.event_first (let q = length-append d.rules (f ∷ []) in omega arith)

pub whole : (bs : List ℕ) (d : Draft) (a : ℕ) (s : EventNames) (x : Step) (told : Stepped bs d a s (Ok x)) → length bs ≤ x.progress.at → (bs ≡ rendered (grown d told.1.0)) × Keeps (grown d told.1.0) × (0 < length (grown d told.1.0).declared)
whole bs d a s x (forth, (i, says, h)) done = (
  h.text ∙ ap (λ z. rendered (grown d i) ++ z) (drop_all x.progress.at bs done) ∙ append-nil (rendered (grown d i)),
  h.keeps,
  has_event d i h.keeps,
)

-- slots that are all free
free_at : (n i : ℕ) → ◌≡◌ {A = Option (Entry NameKey)} (get_or (replicate n None) i None) None
free_at zero i = refl
free_at (suc n) zero = refl
free_at (suc n) (suc i) = free_at n i

free_numbered : (n : ℕ) (m : List ℕ) → numbered (replicate n None) m ≡ None
free_numbered zero m = refl
free_numbered (suc n) m = free_numbered n m

not_free : {x : Entry NameKey} → None ≡ Some x → ⊥
not_free e = let z : ◌≡◌ {A = ℕ} 0 1 = cc in omega arith

-- no name has a number by slots that are all free
pub no_numbers : Valid same_name name_hash (replicate 12 None) × Few (replicate 12 None)
no_numbers = (
  record {
    reached = λ i k v holds. absurd (not_free (sym (free_at 12 i) ∙ holds));
    apart = λ i j k l v w holds other same. absurd (not_free (sym (free_at 12 i) ∙ holds));
  },
  λ n e is. absurd (let z : ◌≡◌ {A = ℕ} 0 1 = (let q = free_numbered 12 n in cc) in omega arith),
)
