use Rattle.std.proofs.Common.{◌≡◌, ◌≢◌, ℕ, List, length, drop, None, sym, subst, rules, tests, arith}
use Rattle.std.specs.List.{Contains, AllWithin}
use Rattle.std.proofs.lemmas.Iterator.{first_from_find, YieldsList-from_slice}
use Rattle.text.specs.Words.{named}
use Rattle.text.proofs.Tokens.{named_same}
use Rattle.forms.specs.Reads.{CaseAt}
use Rattle.forms.proofs.Steps.{stands_only}
use Rattle.forms.proofs.worded.case_at.Goals as goal

says_none : {T : Type 0} (word : T → List ℕ) (cases : List T) (n : List ℕ) → ((x : T) → Contains cases x) → AllWithin (λ x. n ≢ word x) cases 0 (length cases) → (x : T) → n ≢ word x
says_none word cases n every none x = let (k, inside, is) = every x in subst (λ y. n ≢ word y) is (none k x (omega arith) inside)

pub returns-in_err-case : goal.returns-in_err-case
returns-in_err-case g c =
    let bs = c.args.text.now in
    let n = c.in_ok-name.name.bytes.now in
    let t = g.T.Worded in
    subst (CaseAt t.word_of c.args.tight bs c.args.at) (sym c.from_residual-in_err-case.ensures)
    (λ x o stands. says_none t.word_of c.cases.result.now n c.cases.ensures
    (first_from_find _ _ None (λ y. n ≡ t.word_of y) (λ y. n ≢ t.word_of y) c.in_err-case.ensures.ran (YieldsList-from_slice c.cases.result.now c.iter.ensures.rest) (λ y q k. search (rules, tests)) (λ y q k. search (rules, tests)))
    x (sym (named_same (stands_only c.args.tight (drop c.args.at bs) (named n) (named (t.word_of x)) (drop c.in_ok-name.end bs) o c.in_ok-name.ensures.1 stands).0)))
