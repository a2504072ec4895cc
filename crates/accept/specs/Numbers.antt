-- The numbers that names have in a map. Assumes nothing.
--     numbered s n      the number of the event with the name n, by the slots s; absent if there is none
--     Few s             the slots s map names to the first twelve events alone
use Rattle.std.specs.Prelude.{◌≡◌, ℕ, ◌<◌, cond, List, [], ◌∷◌, Some, None, Option}
use Rattle.std.specs.Str.{bytes_eq}
use Rattle.slots.specs.Maps.{Slots}
use Rattle.accept.specs.declared.key.NameKey.{NameKey}

abbrev pub numbered : Slots NameKey → List ℕ → Option ℕ
numbered [] n = None
numbered (None ∷ s) n = numbered s n
numbered (Some x ∷ s) n = cond (bytes_eq x.key.bytes.now n) (Some x.value) (numbered s n)

abbrev pub Few : Slots NameKey → Type 0
Few s = (n : List ℕ) (e : ℕ) → numbered s n ≡ Some e → e < 12
