-- Names as far as words go, and the bytes that they are written with. Assumes nothing.
--     in_name k      bytes of the kind k stand in names: letters, digits and hyphens
--     name_byte b    the byte b may stand in a name
--     Run n          n is a name as far as words go: one or more bytes that may stand in names
use Rattle.std.specs.Prelude.{◌≡◌, ℕ, ◌<◌, Bool, true, false, List, length, slice_index}
use Rattle.text.specs.declared.kind.Kind.{Kind}
use Rattle.text.specs.declared.kind.Kind.TheVariants.{Letter, Digit, Hyphen, Tilde, Open, Close, Space, LineFeed, Other}
use Rattle.text.specs.Kinds.{kind_of}

abbrev pub in_name : Kind → Bool
in_name Letter = true
in_name Digit = true
in_name Hyphen = true
in_name Tilde = false
in_name Open = false
in_name Close = false
in_name Space = false
in_name LineFeed = false
in_name Other = false

abbrev pub name_byte : ℕ → Bool
name_byte b = in_name (kind_of b)

abbrev pub Run : List ℕ → Type 0
Run n = (0 < length n) × ((k : ℕ) → k < length n → name_byte (slice_index n k) ≡ true)
