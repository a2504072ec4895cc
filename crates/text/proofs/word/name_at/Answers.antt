use Rattle.text.proofs.Reading.{part, run_broken, run_none}
use Rattle.text.proofs.word.name_at.Goals as goal

pub returns-then-at-end : goal.returns-then-at-end
returns-then-at-end c =
    let bs = c.args.text.now in
    let a = c.args.at in
    let e = c.run_end-end.result in
    let run = c.run_end-end.ensures in
    (c.if-at-end.true, run.1, part bs a e run.0, run_broken bs a e run)

pub returns-else-at-end : goal.returns-else-at-end
returns-else-at-end c = run_none c.args.text.now c.args.at c.run_end-end.result c.run_end-end.ensures c.if-at-end.false
