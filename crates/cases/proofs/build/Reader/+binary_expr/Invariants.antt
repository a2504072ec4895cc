use Rattle.std.proofs.Common.{◌+◌, ◌*◌}
use Rattle.cases.proofs.build.Reader.+binary_expr.Given as goal

abbrev pub decreases-binary : goal.decreases-binary
decreases-binary l = 2 * l.depth

abbrev pub decreases-expr : goal.decreases-expr
decreases-expr l = 2 * l.depth + 1
