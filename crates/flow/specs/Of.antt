-- What the values of this crate hold, for the contracts of other crates. Assumes nothing.
--     events_of f   what a sheet tells of the events of the flow f, in their order
--     names_of f    the names of its events, in their order
--     rules_of f    its rules, in their order
--     IsEmpty f     it has neither events nor rules
--     few_told      a flow tells no more events than a sheet does, which its type says
use Rattle.std.specs.Prelude.{◌≡◌, ℕ, ◌≤◌, List, [], vec_items}
use Rattle.std.proofs.Common.{sym, subst}
use Rattle.std.proofs.lemmas.List.{length-map}
use Rattle.algebra.specs.Of as algebra
use Rattle.algebra.specs.declared.expr.Expr.{Expr}
use Rattle.sheet.specs.declared.grade.Event.{Event}
use Rattle.sheet.specs.Sheets.{IsSheet}
use Rattle.flow.specs.declared.flow.Flow.{Flow}
use Rattle.flow.specs.Events.{names_in, told_in}

abbrev pub events_of : Flow → List Event
events_of f = told_in (vec_items f.events)

abbrev pub names_of : Flow → List (List ℕ)
names_of f = names_in (vec_items f.events)

abbrev pub rules_of : Flow → List Expr
rules_of f = algebra.rules_of f.rules

abbrev pub IsEmpty : Flow → Type 0
IsEmpty f = (vec_items f.events ≡ []) × (rules_of f ≡ [])

-- a flow is a sheet: it has at most twelve events
pub few_told : (f : Flow) → IsSheet (events_of f)
few_told f = subst (λ n. n ≤ 12) (sym (length-map (vec_items f.events) (λ e. e.event))) f.few_events
