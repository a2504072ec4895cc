use Rattle.std.proofs.Common.{MatchOption, ◌≡◌, ◌≤◌, refl, subst}
use Rattle.flow.proofs.compile.leaf.Goals as goal

pub returns : goal.returns
returns c = (refl, refl, (c.unwrap-leaf.result, subst (λ r. MatchOption r (64 ≤ c.args.number) (λ n. n.value ≡ c.args.number)) c.unwrap-leaf.ensures c.new.ensures, refl))
