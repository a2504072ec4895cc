use Rattle.std.proofs.Common.{◌-◌, ◌≤◌, length}
use Rattle.accept.proofs.Surveying.{Seen}
use Rattle.accept.proofs.tally.survey.Given as goal

abbrev pub invariant-loop-at : goal.invariant-loop-at
invariant-loop-at l = Seen l.line.text.now l.rule.at l.names l.at l.tight l.tally × (l.tally.leaves ≤ l.at)

abbrev pub decreases-loop-at : goal.decreases-loop-at
decreases-loop-at l = length l.line.text.now - l.at
