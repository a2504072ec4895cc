use Rattle.slots.proofs.map.insert.Goals as goal

pub returns-in-Ok : goal.returns-in-Ok
returns-in-Ok g c =
    let t = c.in-Ok.ensures.1 c.args.value in
    record { inserts = t.0; valid = t.1 }
