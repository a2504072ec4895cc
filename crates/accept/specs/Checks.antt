-- What checking a flow file answers. Assumes nothing.
--     Counted d e r l      the draft d has e events, r rules and l leaves
--     Walked bs r          r says how far the file bs was read, to its end, or its first fault
--     Accepting bs r       r says how far the file bs was read, if it is accepted; else its refusal
--     Checked bs r         r is the summary of the file bs, if it is accepted; else its refusal
use Rattle.std.specs.Prelude.{◌≡◌, ℕ, ◌<◌, List, length, Ok, Err, Result}
use Rattle.accept.specs.declared.counts.Progress.{Progress}
use Rattle.refusals.specs.declared.refusal.Refusal.{Refusal}
use Rattle.refusals.specs.declared.refusal.Refusal.TheVariants.{TooLong, Line}
use Rattle.refusals.specs.declared.refusal.Summary.{Summary}
use Rattle.accept.specs.Drafts.{Draft, leaf_count, rendered, Keeps}
use Rattle.accept.specs.Outcomes.{FirstFault, accepted, refused, ComesTo}

pub record Counted (d : Draft) (events rules leaves : ℕ) : Type 0 where
  pub all_events : events ≡ length d.declared
  pub all_rules : rules ≡ length d.rules
  pub all_leaves : leaves ≡ leaf_count d

abbrev pub Walked : List ℕ → Result Progress Refusal → Type 0
Walked bs (Ok p) = (d : Draft) × (bs ≡ rendered d) × Keeps d × (0 < length d.declared) × Counted d p.events p.rules p.leaves
Walked bs (Err TooLong) = ⊥
Walked bs (Err (Line n k)) = FirstFault bs n k

abbrev pub Accepting : List ℕ → Result Progress Refusal → Type 0
Accepting bs (Ok p) = (d : Draft) × ComesTo bs (accepted d) × Counted d p.events p.rules p.leaves
Accepting bs (Err r) = ComesTo bs (refused r)

abbrev pub Checked : List ℕ → Result Summary Refusal → Type 0
Checked bs (Ok x) = (d : Draft) × ComesTo bs (accepted d) × Counted d x.events x.rules x.leaves
Checked bs (Err r) = ComesTo bs (refused r)
