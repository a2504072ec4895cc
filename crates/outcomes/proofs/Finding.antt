-- Names found by their places.
use Rattle.std.proofs.Common.{ℕ, List, [], get_or, Some, None, subst}
use mathlib.Core.List.{Memᴰ}
use Rattle.std.specs.declared.option.Option.{Option}
use Rattle.std.proofs.lemmas.Option.{slice_get_within, slice_get-get_or, get_or_from_slice_get}
use Rattle.accept.specs.Drafts.{Found as FoundIn}
use Rattle.accept.proofs.Growing.{nth_member}
use Rattle.report.specs.Texts.{Found}

-- the number of a name, as a report asks for it
pub found : (names : List (List ℕ)) (t : List ℕ) (r : Option ℕ) → FoundIn names t r → Found names t r
found names t None none = λ e h q. none (subst (λ n. Memᴰ n names) q (nth_member names (get_or names e []) e (slice_get-get_or names e [] h)))
found names t (Some e) at = (slice_get_within names e t at, get_or_from_slice_get names e t [] at)
