use Rattle.std.proofs.Common.{map, MatchBool, sym, subst, rules, tests}
use mathlib.Core.List.{Memᴰ}
use Rattle.std.specs.Str.{bytes_eq}
use Rattle.std.proofs.lemmas.Iterator.{YieldsList-from_slice}
use Rattle.std.proofs.lemmas.Iterator.Search.{any_from_yields_List}
use Rattle.accept.proofs.Reserving.{among}
use Rattle.accept.proofs.name.is_among.Goals as goal

pub returns : goal.returns
returns c =
    let n = c.args.name.now in
    let ws = c.args.words.now in
    let is = any_from_yields_List (λ w. bytes_eq w.now n) _ _ c.any.result c.any.ensures.ran (YieldsList-from_slice ws cc) (λ x b q k. search (rules, tests)) in
    subst (λ b. MatchBool b (Memᴰ n (map (λ x. x.now) ws)) (Memᴰ n (map (λ x. x.now) ws) → ⊥)) (sym is) (among n ws)
