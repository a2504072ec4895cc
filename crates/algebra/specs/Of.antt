-- What the values of this crate hold, for the contracts of other crates. Assumes nothing.
--     rules_of r      the rules of a list of rules, in their order
--     literals_of t   the literals of a trace, in their order
use Rattle.std.specs.Prelude.{List, vec_items}
use Rattle.algebra.specs.declared.literal.Literal.{Literal}
use Rattle.algebra.specs.declared.expr.Expr.{Expr}
use Rattle.algebra.specs.declared.rules.Rules.{Rules}
use Rattle.algebra.specs.declared.trace.Trace.{Trace}

abbrev pub rules_of : Rules → List Expr
rules_of r = vec_items r.list

abbrev pub literals_of : Trace → List Literal
literals_of t = vec_items t.literals
