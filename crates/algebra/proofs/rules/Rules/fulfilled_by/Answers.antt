use Rattle.algebra.proofs.Laws.{left_of_one, left_of_rules}
use Rattle.algebra.proofs.rules.Rules.fulfilled_by.Goals as goal

pub returns-in_err-rule-clause-one : goal.returns-in_err-rule-clause-one
returns-in_err-rule-clause-one c = left_of_one

pub returns-in_err-rule-clause-each : goal.returns-in_err-rule-clause-each
returns-in_err-rule-clause-each c = left_of_rules
