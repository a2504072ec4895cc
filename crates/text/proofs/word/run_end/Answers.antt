use Rattle.std.proofs.Common.{◌≡◌, drop, ◌+◌, true, false, length, MatchOption, rules, tests}
use Rattle.std.proofs.lemmas.Iterator.{IsFirst-from_position, YieldsList-from_slice}
use Rattle.text.specs.Names.{name_byte}
use Rattle.text.proofs.Searching.{rest_is, run_first}
use Rattle.text.proofs.word.run_end.Goals as goal

pub returns : goal.returns
returns c =
    let bs = c.args.text.now in
    let a = c.args.from in
    let found = IsFirst-from_position _ _ _ (λ b. name_byte b ≡ false) (λ b. name_byte b ≡ true) c.position.ensures.ran (YieldsList-from_slice (drop a bs) (rest_is bs a _ (cc))) (λ x q k. search (rules, tests)) (λ x q k. search (rules, tests)) in
    let is : MatchOption c.position.result (c.map_or.result ≡ length bs) (λ i. c.map_or.result ≡ a + i) = search rules in
    run_first bs a c.requires c.position.result c.map_or.result found is
