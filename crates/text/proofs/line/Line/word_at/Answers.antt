use Rattle.text.proofs.Placing.{word_here}
use Rattle.text.proofs.line.Line.word_at.Goals as goal

pub returns-clause-word : goal.returns-clause-word
returns-clause-word c =
    word_here c.args.tight c.args.self.text.now c.args.at c.args.self.number c.in_ok-next.next c.in_ok-next.ensures.word c.gap_len.result c.gap_len.ensures
