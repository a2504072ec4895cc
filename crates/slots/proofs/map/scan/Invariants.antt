use Rattle.slots.specs.Maps.{Filled}
use Rattle.slots.specs.Search.{Lacks}
use Rattle.slots.proofs.map.scan.Given as goal

abbrev pub invariant-loop-i : goal.invariant-loop-i
invariant-loop-i g l = Filled l.slots l.from l.i × Lacks g.K.Key.same l.slots l.key l.from l.i
