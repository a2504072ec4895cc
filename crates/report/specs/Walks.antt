-- What is printed of a list of words that are read as literals. Assumes nothing.
--     Begun xs s               s has taken no literal yet, of the rules xs
--     Grown W xs s d l t       the state s becomes t as the literal l is taken, whose text is d, and its line is printed in the wording W
--     Took W names xs s d t r  where the state was s and the word was d, the answer is r and t stands afterwards
--     Spelt names w ds         the words ds say the literals w, one by one
--     Told W names xs ds t o   of the words ds the bytes t are printed, and o is whether all were read, or why not
use Rattle.std.specs.Prelude.{◌≡◌, ℕ, ◌<◌, List, [], ◌∷◌, ◌++◌, map, length, take, replicate, Some, None, Ok, Err, string_bytes, Result, slice_index_or}
use mathlib.Core.List.{Memᴰ}
use Rattle.algebra.specs.declared.literal.Literal.{Literal}
use Rattle.algebra.specs.declared.expr.Expr.{Expr}
use Rattle.algebra.specs.Literals.{event_of, IsTrace}
use Rattle.algebra.specs.Left.{fresh_all, applied_all}
use Rattle.algebra.specs.Of.{literals_of}
use Rattle.sheet.specs.declared.status.Status.TheVariants.{Open}
use Rattle.sheet.specs.Of.{bits_of}
use Rattle.sheet.specs.Statuses.{packed, statuses}
use Rattle.report.specs.declared.error.WordError.{WordError}
use Rattle.report.specs.declared.error.WordError.TheVariants as word
use Rattle.report.specs.declared.walk.TakeError.{TakeError}
use Rattle.report.specs.declared.walk.TakeError.TheVariants.{Unknown, Twice, Memory}
use Rattle.report.specs.declared.walk.Walk.{Walk}
use Rattle.report.specs.Lines.{settled, Wording, left_lines, RuleLines}
use Rattle.report.specs.Texts.{Says}

pub record Begun (xs : List Expr) (s : Walk) : Type 0 where
  pub trace : literals_of s.trace ≡ []
  pub word : bits_of s.word ≡ packed (replicate 12 Open)
  pub marks : s.marks ≡ fresh_all xs
  pub text : string_bytes s.text ≡ []

pub record Grown (W : Wording) (xs : List Expr) (s : Walk) (d : List ℕ) (l : Literal) (t : Walk) : Type 0 where
  pub trace : literals_of t.trace ≡ literals_of s.trace ++ (l ∷ [])
  pub word : bits_of t.word ≡ packed (settled (statuses (bits_of s.word)) l)
  pub marks : t.marks ≡ applied_all xs s.marks l
  pub text : string_bytes t.text ≡ string_bytes s.text ++ W.line d (bits_of t.word) t.marks

abbrev pub Took : Wording → List (List ℕ) → List Expr → Walk → List ℕ → Walk → Result (Unit {0}) TakeError → Type 0
Took W names xs s d t (Ok done) = (l : Literal) × Says names d (Some l) × Grown W xs s d l t
Took W names xs s d t (Err Unknown) = (t ≡ s) × Says names d None
Took W names xs s d t (Err Twice) = (t ≡ s) × ((l : Literal) × Says names d (Some l) × Memᴰ (event_of l) (map event_of (literals_of s.trace)))
Took W names xs s d t (Err (Memory e)) = Unit {0}

abbrev pub Spelt : List (List ℕ) → List Literal → List (List ℕ) → Type 0
Spelt names [] [] = Unit {0}
Spelt names [] (d ∷ ds) = ⊥
Spelt names (l ∷ w) [] = ⊥
Spelt names (l ∷ w) (d ∷ ds) = Says names d (Some l) × Spelt names w ds

abbrev pub Told : Wording → List (List ℕ) → List Expr → List (List ℕ) → List ℕ → Result (Unit {0}) WordError → Type 0
Told W names xs ds t (Ok done) =
    (w : List Literal) × (verdicts : List ℕ) × IsTrace w × Spelt names w ds × RuleLines xs w verdicts
    × (t ≡ left_lines W.line names xs [] w ++ verdicts)
Told W names xs ds t (Err (word.Unknown k)) =
    (w : List Literal) × IsTrace w × Spelt names w (take k ds) × (k < length ds) × Says names (slice_index_or ds k []) None
    × (t ≡ left_lines W.line names xs [] w ++ W.refused (slice_index_or ds k []))
Told W names xs ds t (Err (word.Twice k)) =
    (w : List Literal) × (l : Literal) × IsTrace w × Spelt names w (take k ds) × (k < length ds) × Says names (slice_index_or ds k []) (Some l)
    × Memᴰ (event_of l) (map event_of w) × (t ≡ left_lines W.line names xs [] w ++ W.refused (slice_index_or ds k []))
