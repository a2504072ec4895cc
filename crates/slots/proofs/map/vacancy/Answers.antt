use Rattle.std.proofs.Common.{Some, length-set, subst}
use Rattle.slots.specs.declared.slot.Place.TheVariants.{Free}
use Rattle.slots.specs.Search.{Seeks}
use Rattle.slots.proofs.Tables.{entry, at_set, valid_set, taken_set, taken_all}
use Rattle.slots.proofs.map.vacancy.Goals as goal

pub returns-in-Some-Free : goal.returns-in-Some-Free
returns-in-Some-Free g c =
    let s = c.args.slots.now in
    let q = c.args.key.now in
    let i = c.in-Some-Free.place in
    let k = g.K.Key in
    let m = g.K.Key.laws in
    let t : Seeks k.same k.hash s q (Some (Free i)) = subst (λ p. Seeks k.same k.hash s q (Some p)) c.in-Some-Free.field-0-is c.in-Some-Free.ensures in (
      t.1,
      λ v. (
        (
          t.0,
          taken_set s i q v t.1 t.2,
          length-set s i (entry q v),
          λ x. at_set k.same m.symmetric m.transitive s i q v x t.1 t.2 t.4,
        ),
        valid_set k.same m.symmetric m.transitive k.hash m.shared s q c.requires i v t.1 t.2 t.3 t.4,
      ),
    )

pub returns-in-None : goal.returns-in-None
returns-in-None g c =
    let t = c.in-None.ensures in
    (t.0, taken_all c.args.slots.now t.1)
