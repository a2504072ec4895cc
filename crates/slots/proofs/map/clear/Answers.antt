use Rattle.std.proofs.Common.{arith}
use Rattle.slots.proofs.Tables.{cleared}
use Rattle.slots.proofs.map.clear.Goals as goal

pub returns : goal.returns
returns g c =
    cleared g.K.Key.same g.K.Key.hash c.args.slots.now c.loop-slot.slot-items c.loop-slot.auto.slot-items (λ k l. c.loop-slot.invariant k (omega arith))
