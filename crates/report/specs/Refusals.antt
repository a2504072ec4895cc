-- What is said to people of words that are refused. Assumes nothing.
--     refusal_of ds o   what is said of the words ds, where not all were read
use Rattle.std.specs.Prelude.{ℕ, ◌+◌, List, [], ◌++◌, Some, None, Ok, Err, codes, decimal, Option, Result, slice_index_or}
use Rattle.report.specs.declared.error.WordError.{WordError}
use Rattle.report.specs.declared.error.WordError.TheVariants.{Unknown, Twice}

abbrev pub refusal_of : List (List ℕ) → Result (Unit {0}) WordError → Option (List ℕ)
refusal_of ds (Ok done) = None
refusal_of ds (Err (Unknown k)) =
    Some (codes "line " ++ (decimal (k + 1) ++ (codes ": there is no event for '" ++ (slice_index_or ds k [] ++ codes "'"))))
refusal_of ds (Err (Twice k)) =
    Some (codes "line " ++ (decimal (k + 1) ++ (codes ": the event of '" ++ (slice_index_or ds k [] ++ codes "' came before"))))
