use Rattle.std.proofs.Common.{◌+◌, ◌-◌, length}
use Rattle.accept.specs.Drafts.{Draft}
use Rattle.accept.specs.Steps.{Reached, GoesOn}
use Rattle.accept.proofs.walk.walk.Given as goal

abbrev pub invariant-lines : goal.invariant-lines
invariant-lines l = ((d : Draft) × Reached l.file d l.progress l.names) × GoesOn l.file l.progress

abbrev pub decreases-lines : goal.decreases-lines
decreases-lines l = length l.file + 1 - l.progress.at
