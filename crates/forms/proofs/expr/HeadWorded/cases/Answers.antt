use Rattle.std.proofs.Common.{refl, arith}
use Rattle.algebra.specs.declared.expr.Head.TheVariants.{Alt, All, Seq}
use Rattle.forms.proofs.expr.HeadWorded.cases.Goals as goal

pub returns : goal.returns
returns c = elim [ Alt ↦ (0, omega arith, refl) | All ↦ (1, omega arith, refl) | Seq ↦ (2, omega arith, refl) ]
