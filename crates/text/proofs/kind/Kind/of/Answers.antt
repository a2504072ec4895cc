use Rattle.std.proofs.Common.{arith}
use Rattle.text.proofs.Tables.{kind_at}
use Rattle.text.proofs.kind.Kind.of.Goals as goal

pub returns : goal.returns
returns c = kind_at c.kinds.result.now c.args.byte _ c.kinds.ensures (omega arith)
