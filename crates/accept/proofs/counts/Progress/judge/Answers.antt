use Rattle.accept.proofs.Tallying.{judged_crowded, judged_fine}
use Rattle.accept.proofs.counts.Progress.judge.Goals as goal

pub returns-then-is_crowded-clause-judged : goal.returns-then-is_crowded-clause-judged
returns-then-is_crowded-clause-judged c = λ f l.
    judged_crowded c.args.names.now f c.survey-tally.result (c.survey-tally.ensures f l) c.args.self.rules c.args.self.leaves c.in_ok-lowest.ensures c.if-is_crowded.ensures

pub returns-clause-judged : goal.returns-clause-judged
returns-clause-judged c = λ f l.
    judged_fine c.args.names.now f c.survey-tally.result (c.survey-tally.ensures f l) c.args.self.rules c.args.self.leaves c.in_ok-lowest.ensures c.if-is_crowded.ensures
