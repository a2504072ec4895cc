-- Statuses of events, and the status word. Assumes nothing.
--     number s         the number of a status: open 0, waiting 1, happened 2, never 3
--     status_of n      the status of a number; of one above 3, never
--     packed ss        the statuses ss in one number, the first in the lowest two bits
--     unpacked n w     the statuses that the lowest n pairs of bits of w hold
--     statuses w       the statuses of events 0 to 11 in the status word w
--     Packing          a status word below 2 ^ 24 and the statuses of twelve events determine each other
use Rattle.std.specs.Prelude.{◌≡◌, ℕ, zero, suc, ◌+◌, ◌*◌, ◌/◌, ◌%◌, ◌^◌, ◌<◌, List, [], ◌∷◌, length}
use Rattle.sheet.specs.declared.status.Status.{Status}
use Rattle.sheet.specs.declared.status.Status.TheVariants.{Open, Waiting, Happened, Never}

abbrev pub number : Status → ℕ
number Open = 0
number Waiting = 1
number Happened = 2
number Never = 3

abbrev pub status_of : ℕ → Status
status_of zero = Open
status_of (suc zero) = Waiting
status_of (suc (suc zero)) = Happened
status_of (suc (suc (suc n))) = Never

abbrev pub packed : List Status → ℕ
packed [] = 0
packed (s ∷ ss) = number s + 4 * packed ss

abbrev pub unpacked : ℕ → ℕ → List Status
unpacked zero w = []
unpacked (suc n) w = status_of (w % 4) ∷ unpacked n (w / 4)

unfoldable pub statuses : ℕ → List Status
statuses w = unpacked 12 w

abbrev pub Packing : Type 0
Packing =
    ((w : ℕ) → w < 2 ^ 24 → packed (statuses w) ≡ w)
    × ((ss : List Status) → length ss ≡ 12 → (packed ss < 2 ^ 24) × (statuses (packed ss) ≡ ss))
