use Rattle.std.proofs.Common.{rules, tests, ◌≡◌, refl, arith}
use Rattle.std.specs.List.{slice_get}
use Rattle.std.proofs.lemmas.Iterator.{cases_from_all, YieldsList-from_range}
use Rattle.sheet.proofs.Lists.{same_by_all}
use Rattle.sheet.proofs.compare.same_events.Goals as goal

pub returns-then-count-clause-same : goal.returns-then-count-clause-same
returns-then-count-clause-same g c =
    let xs = g.S.Sheet.events c.args.left.now in
    let ys = g.U.Sheet.events c.args.right.now in
    let n = c.count-count.result in
    same_by_all xs ys n c.all.result c.count-count.ensures (omega arith)
    (cases_from_all _ _ c.all.result (λ k. slice_get xs k ≡ slice_get ys k) (λ k. slice_get xs k ≡ slice_get ys k → ⊥) c.all.ensures.ran
    (YieldsList-from_range 0 n n refl (omega arith)) (λ x q k. search (rules, tests)) (λ x q k. search (rules, tests)))
