-- What the events and rules of a flow keep. Assumes nothing.
--     name_of e     the name of an event
--     names_in es   the names of the events es, in their order
--     told_in es    what a sheet tells of the events es, in their order
--     Distinct ns   no two of the names ns are the same
--     Within n xs   the literals of the rules xs speak of the first n events alone
use Rattle.std.specs.Prelude.{ℕ, ◌<◌, List, map, vec_items}
use mathlib.Core.List.{Memᴰ}
use Rattle.std.specs.Str.{bytes_eq}
use Rattle.std.specs.List.{flat_map, IsDistinct}
use Rattle.algebra.specs.declared.expr.Expr.{Expr}
use Rattle.algebra.specs.Expressions.{events_in}
use Rattle.sheet.specs.declared.grade.Event.{Event}
use Rattle.flow.specs.declared.event.NamedEvent.{NamedEvent}

abbrev pub name_of : NamedEvent → List ℕ
name_of e = vec_items e.name

abbrev pub names_in : List NamedEvent → List (List ℕ)
names_in es = map name_of es

abbrev pub told_in : List NamedEvent → List Event
told_in es = map (λ e. e.event) es

abbrev pub Distinct : List (List ℕ) → Type 0
Distinct ns = IsDistinct bytes_eq ns

abbrev pub Within : ℕ → List Expr → Type 0
Within n xs = (e : ℕ) → Memᴰ e (flat_map events_in xs) → e < n
