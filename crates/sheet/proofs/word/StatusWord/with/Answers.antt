use Rattle.sheet.proofs.Words.{packing}
use Rattle.sheet.proofs.word.StatusWord.with.Goals as goal

pub returns-clause-packing : goal.returns-clause-packing
returns-clause-packing c = packing
