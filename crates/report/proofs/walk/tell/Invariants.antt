use Rattle.std.proofs.Common.{map, take, string_bytes}
use Rattle.report.proofs.Walking.{Walked}
use Rattle.report.proofs.walk.tell.Given as goal

abbrev pub invariant-loop-number : goal.invariant-loop-number
invariant-loop-number g l = Walked g.S.Subject.wording (g.S.Subject.names l.subject) (g.S.Subject.rules l.subject) (take l.number (map string_bytes l.words)) l.walk
