use Rattle.std.proofs.Common.{length, vec_items}
use Rattle.algebra.specs.Of.{rules_of}
use Rattle.flow.proofs.Gaining.{rules_kept, added_cases}
use Rattle.flow.proofs.flow.Flow.add_rule.Goals as goal

pub invariant_of-self : goal.invariant_of-self
invariant_of-self c =
    let f = c.args.self.now in
    let kept = rules_kept (length (vec_items f.events)) (rules_of f.rules) (rules_of c.push.new.self) c.args.rule c.requires.few f.declared c.requires.declared (added_cases (rules_of f.rules) (rules_of c.push.new.self) c.args.rule c.push.result c.push.ensures.added) in
    record { few_events = f.few_events; few_rules = kept.0; apart = f.apart; declared = kept.1 }
