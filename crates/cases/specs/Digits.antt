-- Numbers by their last digit, as keys. Assumes nothing.
--     same_digit a b     a and b end in one digit
--     parity a           0 for an even number, 1 for an odd one, which numbers with one last digit share
--     digit_laws         sameness of last digits is an equivalence, and such numbers share their parity
use Rattle.std.specs.Prelude.{ℕ, ◌%◌, Bool, ◌==◌, refl}
use Rattle.std.proofs.Common.{sym, ◌∙◌, arith}
use Rattle.std.proofs.lemmas.Bool.{eqb-true, eq-eqb}
use Rattle.slots.specs.Keys.{Laws}
use Rattle.cases.specs.declared.digit.LastDigit.{LastDigit}

abbrev pub same_digit : LastDigit → LastDigit → Bool
same_digit a b = a.number % 10 == b.number % 10

abbrev pub parity : LastDigit → ℕ
parity a = a.number % 2

pub digit_laws : Laws same_digit parity
digit_laws = record {
  reflexive = λ x. eq-eqb (x.number % 10) (x.number % 10) refl;
  symmetric = λ x y h. eq-eqb (y.number % 10) (x.number % 10) (sym (eqb-true (x.number % 10) (y.number % 10) h));
  transitive = λ x y z h k. eq-eqb (x.number % 10) (z.number % 10) (eqb-true (x.number % 10) (y.number % 10) h ∙ eqb-true (y.number % 10) (z.number % 10) k);
  shared = λ x y h. let e = eqb-true (x.number % 10) (y.number % 10) h in omega arith;
}
