-- A flow that is filled from an accepted file.
use Rattle.std.proofs.Common.{◌≡◌, ℕ, ◌≤◌, List, [], length, IsOk, Ok, Err, Result, sym, refl, ap, subst, arith}
use Rattle.accept.specs.declared.names.EventNames.{EventNames}
use Rattle.accept.specs.declared.counts.Step.{Step}
use Rattle.flow.specs.declared.flow.Flow.{Flow}
use Rattle.refusals.specs.declared.refusal.Refusal.{Refusal}
use Rattle.refusals.specs.declared.refusal.Refusal.TheVariants.{TooLong, Line}
use Rattle.flow.specs.Events.{names_in, told_in}
use Rattle.accept.specs.Drafts.{Draft}
use Rattle.accept.specs.Outcomes.{accepted, refused, ComesTo}
use Rattle.flow.specs.Of.{IsEmpty}
use Rattle.accept.specs.Steps.{grown, Stepped}
use Rattle.flow.specs.Compiles.{Each, Called, Compiled}
use Rattle.flow.specs.Gains.{Gaining}
use Rattle.accept.proofs.Once.{one_outcome}
use Rattle.accept.proofs.Walking.{nothing, whole}

not_both : {d : Draft} {r : Refusal} → accepted d ≡ refused r → ⊥
not_both e = let z : ◌≡◌ {A = ℕ} 0 1 = cc in omega arith

module _ (bs : List ℕ) where
  -- a file that is accepted has no fault
  no_fault : (g : Draft) → ComesTo bs (accepted g) → (d : Draft) (a : ℕ) (s : EventNames) (r : Refusal) → Stepped bs d a s (Err r) → ⊥
  no_fault g good d a s TooLong told = told
  no_fault g good d a s (Line n k) told = not_both (one_outcome bs (accepted g) (refused (Line n k)) good (good.0, told))

  pub step_taken : (g : Draft) → ComesTo bs (accepted g) → (d : Draft) (a : ℕ) (s : EventNames) (r : Result Step Refusal) → Stepped bs d a s r → IsOk r
  step_taken g good d a s (Ok x) told = refl
  step_taken g good d a s (Err y) told = absurd (no_fault g good d a s y told)

  module _ (d : Draft) (a : ℕ) (s : EventNames) (x : Step) where
    pub gains : (f : Flow) (told : Stepped bs d a s (Ok x)) → Compiled d f → Gaining d told.1.0 x.entry s f
    gains f (forth, (i, says, h)) c = record { says = says; keeps = h.keeps; knows = h.names_are; compiled = c }

    pub filled : (f : Flow) (told : Stepped bs d a s (Ok x)) → length bs ≤ 16384 → length bs ≤ x.progress.at → Compiled (grown d told.1.0) f → (e : Draft) × ComesTo bs (accepted e) × Compiled e f
    filled f told few done c = let (text, keeps, some) = whole bs d a s x told done in (grown d told.1.0, (few, text, keeps, some), c)

pub compiled_nothing : (f : Flow) → IsEmpty f → Compiled nothing f
compiled_nothing f (events, rules) =
    record {
      names_are = ap names_in events;
      events_are = ap told_in events;
      rules_are = subst (Each (Called []) []) (sym rules) tt;
    }
