use Rattle.std.proofs.Common.{◌+◌, ◌*◌}
use Rattle.forms.proofs.expr.+form_end_group_end_members_end.Given as goal

abbrev pub decreases-form-end : goal.decreases-form-end
decreases-form-end l = 20 * l.depth + 2

abbrev pub decreases-group-end : goal.decreases-group-end
decreases-group-end l = 20 * l.depth + 1

abbrev pub decreases-members-end : goal.decreases-members-end
decreases-members-end l = 20 * l.depth + 3 + l.left
