-- That == of grades and of events is true exactly of equal values.
use Rattle.std.proofs.Common.{◌≡◌, sym, subst}
use Rattle.std.specs.Prelude.{Decides}
use Rattle.sheet.specs.Sameness.{Sameness, eq-same_grade, eq-same_event, same_grade-Decides, same_event-Decides}

pub sameness : Sameness
sameness = (
  λ a b. subst (λ s. Decides s (a ≡ b)) (sym (eq-same_grade a b)) (same_grade-Decides a b),
  λ a b. subst (λ s. Decides s (a ≡ b)) (sym (eq-same_event a b)) (same_event-Decides a b),
)
