use Rattle.std.proofs.Common.{◌≡◌, ℕ, ◌%◌, ◌<◌, length, MatchOption, Some, subst, mod-lt, rules, arith}
use Rattle.slots.specs.Search.{Scans}
use Rattle.slots.proofs.Tables.{both_searches}
use Rattle.slots.proofs.map.seek.Goals as goal

pub returns : goal.returns
returns g c =
    let s = c.args.slots.now in
    let q = c.args.key.now in
    let k = g.K.Key in
    let m = g.K.Key.laws in
    let again : MatchOption c.scan.result (Scans k.same s q 0 (c.hash.result % length s) c.or_else.result) (λ p. c.or_else.result ≡ Some p) = search rules in
    both_searches k.same m.symmetric m.transitive k.hash m.shared s q c.requires c.scan.result c.or_else.result
    (let p : 0 < length s = omega arith in let t = mod-lt (k.hash q) p in omega arith)
    (subst (λ (d : ℕ). Scans k.same s q (d % length s) (length s) c.scan.result) c.hash.ensures c.scan.ensures)
    (subst (λ (d : ℕ). MatchOption c.scan.result (Scans k.same s q 0 (d % length s) c.or_else.result) (λ p. c.or_else.result ≡ Some p)) c.hash.ensures again)
