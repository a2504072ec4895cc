-- The table of kinds, entry by entry.
use Rattle.std.proofs.Common.{◌≡◌, ℕ, ◌<◌, List, map, get_or, ap, ◌∙◌, zero-add}
use Rattle.std.specs.List.{range_with_len}
use Rattle.std.proofs.lemmas.List.FromFn.{get_or-map-range_with_len}
use Rattle.text.specs.declared.kind.Kind.{Kind}
use Rattle.text.specs.Kinds.{kind_of}

pub kind_at : (t : List Kind) (b : ℕ) (d : Kind) → t ≡ map kind_of (range_with_len 0 256) → b < 256 → get_or t b d ≡ kind_of b
kind_at t b d e h = ap (λ s. get_or s b d) e ∙ get_or-map-range_with_len kind_of 0 256 b b d h (zero-add b)
