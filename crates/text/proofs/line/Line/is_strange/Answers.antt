use Rattle.std.proofs.Common.{◌≡◌, ◌∙◌, rules, tests}
use Rattle.std.proofs.lemmas.Iterator.{cases_from_any, YieldsList-from_slice}
use Rattle.text.specs.declared.kind.Kind.TheVariants.{Other}
use Rattle.text.specs.Kinds.{kind_of}
use Rattle.text.specs.Files.{bytes_of}
use Rattle.text.proofs.Searching.{rest_is}
use Rattle.text.proofs.Cutting.{strange_or_not}
use Rattle.text.proofs.line.Line.is_strange.Goals as goal

pub returns : goal.returns
returns c =
    let l = c.args.self in
    strange_or_not (bytes_of l) c.any.result
    (cases_from_any _ _ _ (λ b. kind_of b ≡ Other) (λ b. kind_of b ≡ Other → ⊥) c.any.ensures.ran (YieldsList-from_slice (bytes_of l) (rest_is l.text.now l.start _ (c.iter.ensures.rest ∙ c.in-Some.ensures.lookup.0.2))) (λ x q k. search (rules, tests)) (λ x q k. search (rules, tests)))
