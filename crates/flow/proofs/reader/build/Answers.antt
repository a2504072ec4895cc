use Rattle.std.proofs.Common.{subst}
use Rattle.accept.specs.Steps.{Stepped}
use Rattle.accept.proofs.Walking.{begun, goes_on, nothing}
use Rattle.flow.proofs.Filling.{step_taken, gains, compiled_nothing, filled}
use Rattle.flow.proofs.reader.build.Goals as goal

pub lines-init : goal.lines-init
lines-init c =
    let p = c.start-progress.result in
    ((nothing, begun c.args.file.now p c.new-names.result c.start-progress.ensures c.new-names.ensures, compiled_nothing c.new-flow.result c.new-flow.ensures), goes_on c.args.file.now p c.start-progress.ensures.0)

pub unwrap-next-requires : goal.unwrap-next-requires
unwrap-next-requires c =
    let (d, h, k) = c.lines.invariant.0 in
    let (g, accepted) = c.requires in
    step_taken c.args.file.now g accepted d c.lines.progress.at c.step_line.new.names c.step_line.result (c.step_line.ensures d h)

pub returns-then-progress-file : goal.returns-then-progress-file
returns-then-progress-file c =
    let (d, h, k) = c.lines.invariant.0 in
    let told = subst (Stepped c.args.file.now d c.lines.progress.at c.step_line.new.names) c.unwrap-next.ensures (c.step_line.ensures d h) in
    let g = gains c.args.file.now d c.lines.progress.at c.step_line.new.names c.unwrap-next.result c.lines.flow told k in
    filled c.args.file.now d c.lines.progress.at c.step_line.new.names c.unwrap-next.result c.gain.new.self told c.requires.1.0 c.if-progress-file.true (c.in_ok-gain.ensures d told.1.0 g)
