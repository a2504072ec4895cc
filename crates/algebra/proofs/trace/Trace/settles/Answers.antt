use Rattle.std.proofs.Common.{rules, tests, ◌==◌}
use Rattle.std.proofs.lemmas.Iterator.{YieldsList-from_slice}
use Rattle.std.proofs.lemmas.Iterator.Search.{any_from_yields_List}
use Rattle.algebra.specs.Literals.{event_of}
use Rattle.algebra.proofs.Members.{among}
use Rattle.algebra.proofs.trace.Trace.settles.Goals as goal

pub returns : goal.returns
returns c =
    among event_of c.args.event c.args.self.now.literals.items c.any.result
    (any_from_yields_List (λ l. event_of l == c.args.event) _ _ c.any.result c.any.ensures.ran (YieldsList-from_slice c.args.self.now.literals.items cc) (λ x b q k. search (rules, tests)))
