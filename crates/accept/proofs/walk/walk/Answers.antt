use Rattle.accept.proofs.Walking.{begun, goes_on, nothing}
use Rattle.accept.proofs.walk.walk.Goals as goal

pub lines-init : goal.lines-init
lines-init c =
    let p = c.start-progress.result in
    ((nothing, begun c.args.file.now p c.new-names.result c.start-progress.ensures c.new-names.ensures), goes_on c.args.file.now p c.start-progress.ensures.0)
