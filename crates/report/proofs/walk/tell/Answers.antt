use Rattle.report.proofs.Walking.{walked_next}
use Rattle.report.proofs.walk.tell.Goals as goal

pub loop-number-preserved : goal.loop-number-preserved
loop-number-preserved g c =
    walked_next g.S.Subject.wording (g.S.Subject.names c.args.subject.now) (g.S.Subject.rules c.args.subject.now) c.args.words.now c.loop-number.number c.index-words-number.result c.as_str-word.result.now c.loop-number.walk c.take.new.self
    c.loop-number-test.true c.index-words-number.is c.as_str-word.ensures.value c.loop-number.invariant c.take.result c.take.ensures
    c.in-Ok.field-0 c.in-Ok.is
