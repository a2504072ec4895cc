-- Sameness of grades and of events, which is what == answers of them. Assumes nothing.
--     rank g             the number of a grade: flexible 0, inevitable 1, immediate 2
--     grade_of n         the grade of a number; of one above 2, immediate
--     same_grade a b     a and b are one grade
--     same_event a b     a and b have one grade, and are both forcible or both not
--     eq-same_grade, eq-same_event               == answers so of grades and of events
--     same_grade-Decides, same_event-Decides     these tests are true exactly of equal values
--     same_grade-laws, same_event-laws           and so they are symmetric and transitive
--     Sameness                                   == of grades and of events is true exactly of equal values
use Rattle.std.specs.Prelude.{◌≡◌, ℕ, zero, suc, Bool, ◌&&◌, ◌==◌, refl, Decides}
use Rattle.std.proofs.Common.{sym, ap, ◌∙◌}
use Rattle.std.proofs.Math.Bool.{beq}
use Rattle.std.proofs.lemmas.Bool.{eqb-true, eq-eqb}
use Rattle.std.proofs.lemmas.Bool.Decides.{Decides-and}
use Rattle.std.specs.Cmp.{IsPartialEquivalence, partial_equiv_from_equiv, decided, booleans_Decides}
use Rattle.sheet.specs.contracts.grade.GradePartialEq.TheImpl as grade_eq
use Rattle.sheet.specs.contracts.grade.EventPartialEq.TheImpl as event_eq
use Rattle.sheet.specs.declared.grade.Event.{Event}
use Rattle.sheet.specs.declared.grade.Grade.{Grade}
use Rattle.sheet.specs.declared.grade.Grade.TheVariants.{Flexible, Inevitable, Immediate}

abbrev pub rank : Grade → ℕ
rank Flexible = 0
rank Inevitable = 1
rank Immediate = 2

abbrev pub grade_of : ℕ → Grade
grade_of zero = Flexible
grade_of (suc zero) = Inevitable
grade_of (suc (suc n)) = Immediate

abbrev pub same_grade : Grade → Grade → Bool
same_grade a b = rank a == rank b

abbrev pub same_event : Event → Event → Bool
same_event a b = same_grade a.grade b.grade && beq a.forcible b.forcible

pub eq-same_grade : (a b : Grade) → (grade_eq.ghosts).eq a b ≡ same_grade a b
eq-same_grade Flexible Flexible = refl
eq-same_grade Flexible Inevitable = refl
eq-same_grade Flexible Immediate = refl
eq-same_grade Inevitable Flexible = refl
eq-same_grade Inevitable Inevitable = refl
eq-same_grade Inevitable Immediate = refl
eq-same_grade Immediate Flexible = refl
eq-same_grade Immediate Inevitable = refl
eq-same_grade Immediate Immediate = refl

pub eq-same_event : (a b : Event) → (event_eq.ghosts).eq a b ≡ same_event a b
eq-same_event a b = ap (λ s. s && beq a.forcible b.forcible) (eq-same_grade a.grade b.grade)

of_rank : (g : Grade) → grade_of (rank g) ≡ g
of_rank Flexible = refl
of_rank Inevitable = refl
of_rank Immediate = refl

pub same_grade-Decides : (a b : Grade) → Decides (same_grade a b) (a ≡ b)
same_grade-Decides a b = (
  λ e. sym (of_rank a) ∙ ap grade_of (eqb-true (rank a) (rank b) e) ∙ of_rank b,
  λ e. eq-eqb (rank a) (rank b) (ap rank e),
)

pub same_event-Decides : (a b : Event) → Decides (same_event a b) (a ≡ b)
same_event-Decides a b =
    let both = Decides-and (same_grade a.grade b.grade) (beq a.forcible b.forcible) (same_grade-Decides a.grade b.grade) (booleans_Decides a.forcible b.forcible) in
    (λ e. let parts = both.0 e in λ i. record { grade = parts.0 i; forcible = parts.1 i }, λ e. both.1 (ap (λ v. v.grade) e, ap (λ v. v.forcible) e))

pub same_grade-laws : IsPartialEquivalence same_grade
same_grade-laws = partial_equiv_from_equiv (decided same_grade same_grade-Decides)

pub same_event-laws : IsPartialEquivalence same_event
same_event-laws = partial_equiv_from_equiv (decided same_event same_event-Decides)

abbrev pub Sameness : Type 0
Sameness =
    ((a b : Grade) → Decides ((grade_eq.ghosts).eq a b) (a ≡ b))
    × ((a b : Event) → Decides ((event_eq.ghosts).eq a b) (a ≡ b))
