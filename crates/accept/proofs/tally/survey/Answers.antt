use Rattle.std.proofs.Common.{arith}
use Rattle.accept.proofs.Surveying.{seen_all, seen_stuck, seen_more}
use Rattle.accept.proofs.tally.survey.Goals as goal

pub returns-in_default : goal.returns-in_default
returns-in_default c =
    seen_stuck c.args.rule.line.text.now c.args.rule.at c.args.names.now c.loop-at.at c.loop-at.tight c.loop-at.tally c.loop-at.invariant.0 c.loop-at-test.true c.in_default.ensures.word

pub loop-at-preserved : goal.loop-at-preserved
loop-at-preserved c =
    let w = c.in-Some.ensures.word in (
      seen_more c.args.rule.line.text.now c.args.rule.at c.args.names.now c.loop-at.at c.loop-at.tight c.loop-at.tally c.loop-at.invariant.0 _ c.in-Some.next c.with-tally.result c.is_open-tight.result
          w c.with-tally.ensures.tally c.is_open-tight.ensures c.loop-at-test.true,
      (let q = w.forth in let k = c.with-tally.ensures.few in omega arith),
    )

pub returns : goal.returns
returns c =
    seen_all c.args.rule.line.text.now c.args.rule.at c.args.names.now c.loop-at.at c.loop-at.tight c.loop-at.tally c.loop-at.invariant.0 c.loop-at-test.false
