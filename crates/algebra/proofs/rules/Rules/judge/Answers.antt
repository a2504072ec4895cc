use Rattle.std.proofs.Common.{vec_items}
use Rattle.algebra.proofs.Laws.{left_of_one, left_of_rules, judged}
use Rattle.algebra.proofs.rules.Rules.judge.Goals as goal

pub returns : goal.returns
returns c =
    let rules = c.args.self.now in
    let trace = c.args.trace.now in
    record {
      judged = judged (vec_items rules.list) c.args.rule.now c.after.result (vec_items trace.literals) c.fulfilled.result rules.numbered trace.once c.after.ensures c.fulfilled.ensures;
      one = left_of_one;
      each = left_of_rules;
    }
