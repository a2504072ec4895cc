-- Marks on leaves, in two words of 64 bits. Assumes nothing.
--     has_bit w i             bit i of the word w is set
--     is_met m i              leaf i is met in m
--     is_open m i             leaf i is neither met nor struck in m
--     none                    no leaf is met or struck
--     met_at i, struck_at i   leaf i alone is met, or struck
--     union m n               what is met in m or in n, and what is struck in m or in n
use Rattle.std.specs.Prelude.{ℕ, ◌/◌, ◌%◌, ◌^◌, Bool, not, ◌&&◌, ◌==◌, bit_or}
use Rattle.algebra.specs.declared.marks.Marks.{Marks}

abbrev pub has_bit : ℕ → ℕ → Bool
has_bit word i = word / 2 ^ i % 2 == 1

abbrev pub is_met : Marks → ℕ → Bool
is_met m i = has_bit m.met i

abbrev pub is_open : Marks → ℕ → Bool
is_open m i = not (has_bit m.met i) && not (has_bit m.struck i)

abbrev pub none : Marks
none = record { met = 0; struck = 0 }

abbrev pub met_at : ℕ → Marks
met_at i = record { met = 2 ^ i; struck = 0 }

abbrev pub struck_at : ℕ → Marks
struck_at i = record { met = 0; struck = 2 ^ i }

abbrev pub union : Marks → Marks → Marks
union m n = record { met = bit_or m.met n.met; struck = bit_or m.struck n.struck }
