use Rattle.std.proofs.Common.{◌+◌, ◌*◌}
use Rattle.flow.proofs.compile.Source.+form_group_members.Given as goal

abbrev pub decreases-form : goal.decreases-form
decreases-form l = 20 * l.depth + 2

abbrev pub decreases-group : goal.decreases-group
decreases-group l = 20 * l.depth + 1

abbrev pub decreases-members : goal.decreases-members
decreases-members l = 20 * l.depth + 3 + l.left
