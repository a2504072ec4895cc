-- What a flow gains while it is built. Assumes nothing.
--     EventGained f n e g      the flow g is f with the event e, named n, behind the others
--     RuleGained f x g         the flow g is f with the rule x behind the others
--     Gaining d i x s f        the flow f is what the draft d says, and is to gain the item i, which is the entry x; s has the names of both
use Rattle.std.specs.Prelude.{◌≡◌, ℕ, List, [], ◌∷◌, ◌++◌}
use Rattle.algebra.specs.declared.expr.Expr.{Expr}
use Rattle.sheet.specs.declared.grade.Event.{Event}
use Rattle.forms.specs.declared.line.Entry.{Entry}
use Rattle.forms.specs.Items.{Item}
use Rattle.forms.specs.Entries.{Says}
use Rattle.accept.specs.declared.names.EventNames.{EventNames}
use Rattle.flow.specs.declared.flow.Flow.{Flow}
use Rattle.accept.specs.Drafts.{Draft, names, Keeps}
use Rattle.accept.specs.Steps.{Knows, grown}
use Rattle.flow.specs.Compiles.{Compiled}
use Rattle.flow.specs.Of.{events_of, names_of, rules_of}

pub record EventGained (f : Flow) (n : List ℕ) (e : Event) (g : Flow) : Type 0 where
  pub names_are : names_of g ≡ names_of f ++ (n ∷ [])
  pub events_are : events_of g ≡ events_of f ++ (e ∷ [])
  pub rules_are : rules_of g ≡ rules_of f

pub record RuleGained (f : Flow) (x : Expr) (g : Flow) : Type 0 where
  pub names_are : names_of g ≡ names_of f
  pub events_are : events_of g ≡ events_of f
  pub rules_are : rules_of g ≡ rules_of f ++ (x ∷ [])

pub record Gaining (d : Draft) (i : Item) (x : Entry) (s : EventNames) (f : Flow) : Type 0 where
  pub says : Says x i
  pub keeps : Keeps (grown d i)
  pub knows : Knows s (names (grown d i))
  pub compiled : Compiled d f
