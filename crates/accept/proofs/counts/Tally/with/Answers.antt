use Rattle.std.proofs.Common.{◌≡◌, ap, subst, ⊎_elim, ◌∙◌}
use Rattle.text.specs.Words.{token_of, named}
use Rattle.accept.specs.Tallies.{leaf_of, Naming}
use Rattle.accept.proofs.Tallying.{with_none, with_negated, with_bare, with_constant}
use Rattle.accept.proofs.counts.Tally.with.Goals as goal

pub returns-in-Open-clause-tally : goal.returns-in-Open-clause-tally
returns-in-Open-clause-tally c = λ ls h. with_none c.args.names.now ls c.args.self h _ (⊎_elim (ap (λ w. leaf_of c.args.tight (token_of w))) (ap (λ w. leaf_of c.args.tight (token_of w))) c.in-Open.is)

pub returns-in-Never-clause-tally : goal.returns-in-Never-clause-tally
returns-in-Never-clause-tally c = λ ls h. with_negated c.args.names.now ls c.args.self h _ c.in-Never.name.bytes.now _ (ap (λ w. leaf_of c.args.tight (token_of w)) c.in-Never.is) c.naming.ensures

pub returns-in-Name-clause-tally : goal.returns-in-Name-clause-tally
returns-in-Name-clause-tally c = λ ls h. with_none c.args.names.now ls c.args.self h _ (ap (λ w. leaf_of c.args.tight (token_of w)) c.in-Name.is ∙ ap (λ b. leaf_of b (named c.in-Name.field-0.bytes.now)) c.if-tight.true)

pub returns-in-Name-2-clause-tally : goal.returns-in-Name-2-clause-tally
returns-in-Name-2-clause-tally c = λ ls h. with_constant c.args.names.now ls c.args.self h _ c.in-Name-2.name.bytes.now (ap (λ w. leaf_of c.args.tight (token_of w)) c.in-Name-2.is ∙ ap (λ b. leaf_of b (named c.in-Name-2.name.bytes.now)) c.if-tight.false) c.if-is_constant.ensures

pub returns-in-Name-3-clause-tally : goal.returns-in-Name-3-clause-tally
returns-in-Name-3-clause-tally c = λ ls h.
    let same : c.in-Name-3.name ≡ c.in-Name-2.name = (let p = c.in-Name-2.is in let q = c.in-Name-3.is in cc) in
    let counted = subst (λ n. Naming c.args.names.now n.bytes.now c.args.self c.naming-in-Name-3.result) same c.naming-in-Name-3.ensures in
    with_bare c.args.names.now ls c.args.self h _ c.in-Name-2.name.bytes.now _ (ap (λ w. leaf_of c.args.tight (token_of w)) c.in-Name-2.is ∙ ap (λ b. leaf_of b (named c.in-Name-2.name.bytes.now)) c.if-tight.false) c.if-is_constant.ensures counted
