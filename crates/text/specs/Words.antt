-- Words of a line, and the bytes that they are written with. Assumes nothing.
--     Token                     a word by its text: an opening or closing bracket, a name, a name behind `~`
--     token_of w                a word as a token
--     spelt t                   the bytes of a token
--     IsToken t                 the name of the token, if it has one, is a run of bytes that may stand in names
--     Broken rest               rest does not begin with a byte of a name
--     Ends t rest               rest goes on after t: where t ends in a name, rest does not begin with a byte of a name
--     gap tight t               what stands between t and the word before it: nothing behind an opening bracket or at a
--                               line's start (tight) or before a closing bracket, else one space
--     Stands tight bs t rest    bs begins with the token t, after its gap, and rest goes on
--     Inner t                   t is no closing bracket
--     is_open t                 t is an opening bracket, behind which there is no gap
--     Written tight bs ts rest  bs begins with the tokens ts, one behind the other, and rest goes on
--     spells tight ts           the bytes of the tokens ts, each after its gap
--     Tokens ts                 each of ts is a token
--     OneSpelling               bytes are those of at most one list of tokens
use Rattle.std.specs.Prelude.{◌≡◌, ℕ, ◌<◌, Bool, true, false, List, [], ◌∷◌, ◌++◌, length, slice_index}
use Rattle.text.specs.declared.word.Word.{Word}
use Rattle.text.specs.declared.word.Word.TheVariants.{Open, Close, Name, Never}
use Rattle.text.specs.Names.{name_byte, Run}

pub data Token : Type 0 where
  opens closes : Token
  named negated : List ℕ → Token

abbrev pub token_of : Word → Token
token_of Open = opens
token_of Close = closes
token_of (Name n) = named n.bytes.now
token_of (Never n) = negated n.bytes.now

abbrev pub spelt : Token → List ℕ
spelt opens = 40 ∷ []
spelt closes = 41 ∷ []
spelt (named n) = n
spelt (negated n) = 126 ∷ n

abbrev pub IsToken : Token → Type 0
IsToken opens = Unit {0}
IsToken closes = Unit {0}
IsToken (named n) = Run n
IsToken (negated n) = Run n

abbrev pub Broken : List ℕ → Type 0
Broken bs = 0 < length bs → name_byte (slice_index bs 0) ≡ false

abbrev pub Ends : Token → List ℕ → Type 0
Ends opens rest = Unit {0}
Ends closes rest = Unit {0}
Ends (named n) rest = Broken rest
Ends (negated n) rest = Broken rest

abbrev pub gap : Bool → Token → List ℕ
gap true t = []
gap false opens = 32 ∷ []
gap false closes = []
gap false (named n) = 32 ∷ []
gap false (negated n) = 32 ∷ []

abbrev pub Stands : Bool → List ℕ → Token → List ℕ → Type 0
Stands tight bs t rest = IsToken t × (bs ≡ gap tight t ++ (spelt t ++ rest)) × Ends t rest

abbrev pub Inner : Token → Type 0
Inner opens = Unit {0}
Inner closes = ⊥
Inner (named n) = Unit {0}
Inner (negated n) = Unit {0}

abbrev pub is_open : Token → Bool
is_open opens = true
is_open closes = false
is_open (named n) = false
is_open (negated n) = false

abbrev pub Written : Bool → List ℕ → List Token → List ℕ → Type 0
Written tight bs [] rest = bs ≡ rest
Written tight bs (t ∷ ts) rest = (mid : List ℕ) × Stands tight bs t mid × Written (is_open t) mid ts rest

abbrev pub spells : Bool → List Token → List ℕ
spells tight [] = []
spells tight (t ∷ ts) = gap tight t ++ (spelt t ++ spells (is_open t) ts)

abbrev pub Tokens : List Token → Type 0
Tokens [] = Unit {0}
Tokens (t ∷ ts) = IsToken t × Tokens ts

abbrev pub OneSpelling : Type 0
OneSpelling = (tight : Bool) (ts us : List Token) → Tokens ts → Tokens us → spells tight ts ≡ spells tight us → ts ≡ us
