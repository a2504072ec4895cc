-- What the values of this crate hold, for the contracts of other crates. Assumes nothing.
--     bits_of w           the number that a status word is
use Rattle.std.specs.Prelude.{ℕ}
use Rattle.sheet.specs.declared.word.StatusWord.{StatusWord}

abbrev pub bits_of : StatusWord → ℕ
bits_of w = w.bits
