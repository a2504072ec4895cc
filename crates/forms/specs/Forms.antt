-- Expressions as they are written. Assumes nothing.
--     head_text h   the word of a head
--     Form, Chain   an expression as written, and the further members of a group, one at least
--     words f ts    the words of the form f, and then ts
--     chain c ts    the words of the members c and their closing bracket, and then ts
--     Fine f d      heads nest at most d deep in f, and each has 2 to 8 members; names are runs of bytes that stand in names
--     Fines c d n   the same of the members c, of which there are at most n
use Rattle.std.specs.Prelude.{ℕ, ◌-◌, ◌<◌, List, ◌∷◌, codes}
use Rattle.text.specs.Names.{Run}
use Rattle.text.specs.Words.{Token, opens, closes, named, negated}
use Rattle.algebra.specs.declared.expr.Head.{Head}
use Rattle.algebra.specs.declared.expr.Head.TheVariants.{Alt, All, Seq}

abbrev pub head_text : Head → List ℕ
head_text Alt = codes "alt"
head_text All = codes "all"
head_text Seq = codes "seq"

mutual
  pub data Form : Type 0 where
    plain never : List ℕ → Form
    group : Head → Form → Chain → Form

  pub data Chain : Type 0 where
    last : Form → Chain
    more : Form → Chain → Chain

abbrev mutual
  pub words : Form → List Token → List Token
  words (plain n) ts = named n ∷ ts
  words (never n) ts = negated n ∷ ts
  words (group h f c) ts = opens ∷ (named (head_text h) ∷ words f (chain c ts))

  pub chain : Chain → List Token → List Token
  chain (last f) ts = words f (closes ∷ ts)
  chain (more f c) ts = words f (chain c ts)

abbrev mutual
  pub Fine : Form → ℕ → Type 0
  Fine (plain n) d = Run n
  Fine (never n) d = Run n
  Fine (group h f c) d = (0 < d) × Fine f (d - 1) × Fines c (d - 1) 7

  pub Fines : Chain → ℕ → ℕ → Type 0
  Fines (last f) d n = (0 < n) × Fine f d
  Fines (more f c) d n = (0 < n) × Fine f d × Fines c d (n - 1)
