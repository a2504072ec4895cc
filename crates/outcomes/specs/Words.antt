-- What is said to people of words that are refused. Assumes nothing.
--     explained_word ds o   what is said of the words ds, where not all were read
use Rattle.std.specs.Prelude.{ℕ, List, [], ◌++◌, Some, None, Ok, Err, codes, Option, Result, slice_index_or}
use Rattle.report.specs.declared.error.WordError.{WordError}
use Rattle.report.specs.declared.error.WordError.TheVariants.{Unknown, Twice}

abbrev pub explained_word : List (List ℕ) → Result (Unit {0}) WordError → Option (List ℕ)
explained_word ds (Ok done) = None
explained_word ds (Err (Unknown k)) = Some (codes "the flow has no event for '" ++ (slice_index_or ds k [] ++ codes "'"))
explained_word ds (Err (Twice k)) = Some (codes "the event of '" ++ (slice_index_or ds k [] ++ codes "' came before"))
