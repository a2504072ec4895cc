use Rattle.std.proofs.Common.{◌≡◌, MatchOption, true, false, take, refl, rules}
use Rattle.text.proofs.Cutting.{line_cut}
use Rattle.text.proofs.line.cut.Goals as goal

pub returns : goal.returns
returns c =
    let bs = c.args.file.now in
    let l = c.match-line_end.ended in
    let chosen : MatchOption c.line_end.result ((l.0.now ≡ bs) × (l.1 ≡ false)) (λ e. (l.0.now ≡ take e bs) × (l.1 ≡ true)) = search rules in
    line_cut bs c.args.start c.args.number _ refl refl c.line_end.result c.line_end.ensures chosen
