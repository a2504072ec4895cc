use Rattle.std.proofs.Common.{◌∙◌, arith}
use Rattle.sheet.proofs.Words.{packing, shifted_few}
use Rattle.sheet.proofs.word.StatusWord.replaced.Goals as goal

pub overflow_add-result : goal.overflow_add-result
overflow_add-result c =
    let few = shifted_few c.args.self.bits c.args.event c.args.status c.args.self.few c.requires c.from-new.result (c.from-new.ensures ∙ c.from.ensures) in omega arith

pub invariant_of-result : goal.invariant_of-result
invariant_of-result c =
    record { few = shifted_few c.args.self.bits c.args.event c.args.status c.args.self.few c.requires c.from-new.result (c.from-new.ensures ∙ c.from.ensures) }

pub returns-clause-packing : goal.returns-clause-packing
returns-clause-packing c = packing
