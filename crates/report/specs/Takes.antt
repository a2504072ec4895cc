-- Why a literal is not taken. Assumes nothing.
--     Becomes e f   the error e of a trace is told as f
use Rattle.std.specs.Prelude.{◌≡◌}
use Rattle.std.specs.declared.alloc.AllocError.{AllocError}
use Rattle.algebra.specs.declared.trace.TraceError.{TraceError}
use Rattle.algebra.specs.declared.trace.TraceError.TheVariants as trace
use Rattle.report.specs.declared.walk.TakeError.{TakeError}
use Rattle.report.specs.declared.walk.TakeError.TheVariants.{Twice, Memory}

abbrev pub Becomes : TraceError → TakeError → Type 0
Becomes trace.Twice f = f ≡ Twice
Becomes trace.Memory f = (e : AllocError) × (f ≡ Memory e)
