use Rattle.std.proofs.Common.{◌≡◌, map, take, string_bytes}
use Rattle.outcomes.specs.Files.{visible}
use Rattle.outcomes.proofs.file.shown_line.Given as goal

abbrev pub invariant-loop-byte : goal.invariant-loop-byte
invariant-loop-byte l = string_bytes l.text ≡ map visible (take l.byte-index l.byte-items)
