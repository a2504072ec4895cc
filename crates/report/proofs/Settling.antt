-- A status word with the status of one event changed.
use Rattle.std.proofs.Common.{◌≡◌, ◌<◌, ◌≤◌, Some, None, sym, ap, ◌∙◌, MatchOption, slice_set}
use Rattle.std.specs.declared.option.Option.{Option}
use Rattle.std.specs.Option.{unwrap_or}
use Rattle.std.proofs.lemmas.List.{set_past}
use Rattle.algebra.specs.Literals.{event_of}
use Rattle.algebra.specs.declared.literal.Literal.{Literal}
use Rattle.sheet.specs.declared.word.StatusWord.{StatusWord}
use Rattle.sheet.specs.Of.{bits_of}
use Rattle.sheet.specs.Statuses.{packed, statuses}
use Rattle.sheet.proofs.Words.{packing}
use Rattle.report.specs.Lines.{settles, settled}

-- changed where there is such an event, and as it was past the last
pub settled_or_same : (w : StatusWord) (l : Literal) (r : Option StatusWord) → MatchOption r (12 ≤ event_of l) (λ v. (event_of l < 12) × (v.bits ≡ packed (slice_set (statuses w.bits) (event_of l) (settles l)))) → bits_of (unwrap_or r w) ≡ packed (settled (statuses (bits_of w)) l)
unfolding statuses
settled_or_same w l None past = sym (ap packed (set_past (statuses w.bits) (event_of l) (settles l) past) ∙ packing.0 w.bits w.few)
settled_or_same w l (Some v) (within, is) = is
