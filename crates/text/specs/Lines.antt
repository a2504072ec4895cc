-- Lines of a file. Assumes nothing.
--     NoFeed bs a b            no byte from place a on, before b, is a line feed
--     EndsAt bs a r            r is the place of the first line feed from a on; absent if there is none
--     OneLine line             no byte of line is a line feed
--     FeedNext tail            tail begins with a line feed, or is empty
--     FirstLine bs line tail   bs is one line and then tail, which begins with the line feed that ends it, if one does
--     ended tail               a line feed ends the line that tail follows, and not the end of the file
--     Strange line             some byte of line stands in no flow file
use Rattle.std.specs.Prelude.{◌≡◌, ℕ, ◌<◌, ◌≤◌, Bool, true, false, List, [], ◌∷◌, ◌++◌, length, Some, None, Option, ◌≢◌, slice_index}
use Rattle.text.specs.declared.kind.Kind.TheVariants.{Other}
use Rattle.text.specs.Kinds.{kind_of}

-- 10 is the line feed
abbrev pub NoFeed : List ℕ → ℕ → ℕ → Type 0
NoFeed bs a b = (k : ℕ) → a ≤ k → k < b → slice_index bs k ≢ 10

abbrev pub EndsAt : List ℕ → ℕ → Option ℕ → Type 0
EndsAt bs a None = NoFeed bs a (length bs)
EndsAt bs a (Some e) = (a ≤ e) × (e < length bs) × (slice_index bs e ≡ 10) × NoFeed bs a e

abbrev pub OneLine : List ℕ → Type 0
OneLine line = (k : ℕ) → k < length line → slice_index line k ≢ 10

abbrev pub FeedNext : List ℕ → Type 0
FeedNext [] = Unit {0}
FeedNext (b ∷ tail) = b ≡ 10

abbrev pub FirstLine : List ℕ → List ℕ → List ℕ → Type 0
FirstLine bs line tail = (bs ≡ line ++ tail) × OneLine line × FeedNext tail

abbrev pub ended : List ℕ → Bool
ended [] = false
ended (b ∷ tail) = true

abbrev pub Strange : List ℕ → Type 0
Strange line = (k : ℕ) × (k < length line) × (kind_of (slice_index line k) ≡ Other)
