use Rattle.std.proofs.Common.{rules, Some, take}
use Rattle.report.proofs.Finding.{found_here}
use Rattle.report.proofs.named.NamedRulesSubject.find.Goals as goal

pub returns : goal.returns
returns c = found_here (take 12 c.args.self.now.names.now) c.args.name.now (Some c.in_ok-place.field-0) (search rules)
