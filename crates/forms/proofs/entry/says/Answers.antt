use Rattle.std.proofs.Common.{rules, tests}
use Rattle.forms.proofs.Saying.{says_found}
use Rattle.forms.proofs.entry.says.Goals as goal

pub returns : goal.returns
returns c = says_found c.args.line c.args.section c.if-not-line.false _ c.item_of.result c.filter.result c.item_of.ensures c.filter.ensures (λ x b k. search (rules, tests))
