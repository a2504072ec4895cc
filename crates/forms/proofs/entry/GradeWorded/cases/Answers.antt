use Rattle.std.proofs.Common.{refl, arith}
use Rattle.sheet.specs.declared.grade.Grade.TheVariants.{Flexible, Inevitable, Immediate}
use Rattle.forms.proofs.entry.GradeWorded.cases.Goals as goal

pub returns : goal.returns
returns c = elim [ Flexible ↦ (0, omega arith, refl) | Inevitable ↦ (1, omega arith, refl) | Immediate ↦ (2, omega arith, refl) ]
