-- Words with their places in a file. Assumes nothing.
--     WordAt tight bs a n x    x is the word that stands at place a, after its gap, in line n
--     PlacedAt tight bs a n r  r is that word; absent if none stands there
use Rattle.std.specs.Prelude.{◌≡◌, ℕ, ◌+◌, ◌<◌, ◌≤◌, Bool, List, ◌++◌, length, drop, Some, None, Option}
use Rattle.text.specs.declared.placed.Placed.{Placed}
use Rattle.text.specs.Words.{Token, token_of, spelt, gap, Stands}

-- the word stands at place a after its gap, and its own bytes stand at its place
pub record WordAt (tight : Bool) (bs : List ℕ) (a n : ℕ) (x : Placed) : Type 0 where
  pub stands : Stands tight (drop a bs) (token_of x.word) (drop x.end bs)
  pub forth : a < x.end
  pub within : x.end ≤ length bs
  pub place : x.place ≡ a + length (gap tight (token_of x.word))
  pub own : drop x.place bs ≡ spelt (token_of x.word) ++ drop x.end bs
  pub line : x.line ≡ n

abbrev pub PlacedAt : Bool → List ℕ → ℕ → ℕ → Option Placed → Type 0
PlacedAt tight bs a n None = (t : Token) (rest : List ℕ) → Stands tight (drop a bs) t rest → ⊥
PlacedAt tight bs a n (Some x) = WordAt tight bs a n x
