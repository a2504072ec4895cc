use Rattle.accept.proofs.Stepping.{handed_on, stepped_off, stepped_more}
use Rattle.accept.proofs.step.step_line.Goals as goal

pub returns-in_err-read : goal.returns-in_err-read
returns-in_err-read c = λ d h. handed_on c.args.file.now d c.args.from c.args.names.now h c.requires.goes_on c.from_residual.result _ c.from_residual.ensures.1 c.in_err-read.ensures

pub returns-in_err-progress : goal.returns-in_err-progress
returns-in_err-progress c = λ d h.
    stepped_off c.args.file.now d c.args.from c.args.names.now h c.requires.goes_on _ (λ k z e. search) c.in_ok-read.read c.take-taken.new.names c.in_ok-read.ensures c.take-taken.result c.map_err.result _ _ c.take-taken.ensures c.map_err.ensures.cases c.in_err-progress.was c.from_residual-in_err-progress.ensures.1

pub returns : goal.returns
returns c = λ d h.
    stepped_more c.args.file.now d c.args.from c.args.names.now h c.requires.goes_on _ (λ k z e. search) c.in_ok-read.read c.take-taken.new.names c.in_ok-read.ensures c.take-taken.result c.map_err.result c.in_ok-progress.progress c.take-taken.ensures c.map_err.ensures.cases c.in_ok-progress.was
