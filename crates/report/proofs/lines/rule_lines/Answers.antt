use Rattle.std.proofs.Common.{◌≡◌, Some, subst, string_bytes, rules, ◌∙◌}
use Rattle.algebra.specs.Rules.{Answers}
use Rattle.algebra.specs.Of.{rules_of, literals_of}
use Rattle.report.proofs.Printing.{printed_more}
use Rattle.report.proofs.lines.rule_lines.Goals as goal

pub loop-number-preserved : goal.loop-number-preserved
loop-number-preserved c =
    let is : c.fulfilled_by.result ≡ Some c.unwrap-fulfilled.result = search rules in
    printed_more (rules_of c.args.rules.now) (literals_of c.args.trace.now) c.loop-number.number (string_bytes c.loop-number.text) c.loop-number.invariant
    c.unwrap-fulfilled.result c.as_str.result.now (string_bytes c.push_str.new.self)
    (subst (Answers (rules_of c.args.rules.now) (literals_of c.args.trace.now) c.loop-number.number) is c.fulfilled_by.ensures.answer)
    (c.as_str.ensures.value ∙ c.in_ok-line.ensures) c.in_ok-push_str.ensures.bytes
