use Rattle.std.proofs.Common.{rules, ◌≡◌, ◌≤◌, Some, subst, MatchOption}
use Rattle.zukdari.proofs.sample.leaf.Goals as goal

pub returns : goal.returns
returns c =
    let number = c.unwrap-number.result in
    let is : c.new.result ≡ Some number = search rules in
    (number, subst (λ r. MatchOption r (64 ≤ c.args.number) (λ n. n.value ≡ c.args.number)) is c.new.ensures, search rules)
