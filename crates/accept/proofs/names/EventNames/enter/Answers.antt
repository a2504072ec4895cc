use Rattle.accept.proofs.Entries.{kept, entering}
use Rattle.accept.proofs.names.EventNames.enter.Goals as goal

pub invariant_of-self : goal.invariant_of-self
invariant_of-self c =
    let f = c.args.self.now in
    let (inserts, valid) = c.in_ok-place.ensures.1 c.from.result in
    let (twelve, few) = kept f.slots _ c.args.name c.args.number c.from.result c.from.ensures f.twelve c.requires f.few inserts in
    (twelve, (valid, (few, tt)))

pub returns : goal.returns
returns c =
    let f = c.args.self.now in
    let (inserts, valid) = c.in_ok-place.ensures.1 c.from.result in
    let (twelve, few) = kept f.slots _ c.args.name c.args.number c.from.result c.from.ensures f.twelve c.requires f.few inserts in
    entering f _ c.args.name c.args.number c.from.result c.from.ensures twelve valid few inserts
