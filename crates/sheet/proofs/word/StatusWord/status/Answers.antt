use Rattle.sheet.proofs.Words.{nth_numbered}
use Rattle.sheet.proofs.word.StatusWord.status.Goals as goal

pub returns : goal.returns
returns c =
    nth_numbered c.args.self.bits c.args.event c.unwrap.result c.requires (rw c.unwrap.ensures at c.try_from.ensures)
