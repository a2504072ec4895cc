use Rattle.flow.proofs.Compiling.{may_declare, declared_now, may_compile, may_state, stated_now, made_to}
use Rattle.flow.proofs.flow.Flow.gain.Goals as goal

pub add_event-requires : goal.add_event-requires
add_event-requires c = let (d, i, g) = c.requires in let q = may_declare d c.args.names.now c.args.self.now i c.args.entry c.in-Event.declaration c.in-Event.is g in record { few = q.0; undeclared = q.1 }

pub form-requires : goal.form-requires
form-requires c =
    let (d, i, g) = c.requires in
    may_compile d c.args.names.now c.args.self.now c.leaf_count-first.result c.leaf_count-first.ensures.0 i c.args.entry c.in-Rule.rule c.in-Rule.is g

pub add_rule-requires : goal.add_rule-requires
add_rule-requires c =
    let (d, i, g) = c.requires in
    let q = may_state d c.args.names.now c.args.self.now c.leaf_count-first.result c.leaf_count-first.ensures.0 c.in-Rule.rule c.in_ok-built-in-Rule.built c.in_ok-built-in-Rule.ensures i c.args.entry c.in-Rule.is g in
    record { few = q.0; numbered_on = q.1; declared = q.2 }

pub returns-in-Event : goal.returns-in-Event
returns-in-Event c = λ d i g.
    made_to c.add_event.result c.add_event.ensures (declared_now d c.args.names.now c.args.self.now i c.args.entry c.in-Event.declaration c.add_event.new.self c.in-Event.is g)

pub returns-in_ok-built-in-Rule : goal.returns-in_ok-built-in-Rule
returns-in_ok-built-in-Rule c = λ d i g.
    made_to c.add_rule.result c.add_rule.ensures
    (stated_now d c.args.names.now c.args.self.now c.leaf_count-first.result c.leaf_count-first.ensures.0 c.in-Rule.rule c.in_ok-built-in-Rule.built c.in_ok-built-in-Rule.ensures i c.args.entry c.add_rule.new.self c.in-Rule.is g)
