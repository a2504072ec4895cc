use Rattle.std.proofs.Common.{arith}
use Rattle.forms.proofs.Parsing.{members_broken, members_last}
use Rattle.forms.proofs.expr.+form_end_group_end_members_end.Goals as goal

pub members_end-returns-in_err-end : goal.members_end-returns-in_err-end
members_end-returns-in_err-end t c =
    members_broken c.args.text.now c.args.at c.args.depth c.args.left c.in_err-end.field-0.0 c.from_residual.result c.from_residual.ensures.0 c.in_err-end.ensures

pub members_end-returns-in-Some : goal.members_end-returns-in-Some
members_end-returns-in-Some t c =
    members_last c.args.text.now c.args.at c.args.depth c.args.left (omega arith) c.in_ok-end.end c.in_ok-end.ensures c.in-Some.closed c.in-Some.ensures
