-- The lines that are printed of words taken one by one. Assumes nothing.
--     left_line n m    the line of a literal, where n is the status word after it, and m are the marks
--     refused_word t   the line of a word t that is refused
--     of_flow          the wording in which the line of a literal has the numbers alone, and a word that is refused has a line
use Rattle.std.specs.Prelude.{ℕ, List, ◌++◌, codes, decimal}
use Rattle.algebra.specs.declared.marks.Marks.{Marks}
use Rattle.report.specs.Lines.{Wording}

abbrev pub left_line : ℕ → Marks → List ℕ
left_line n m =
    codes "(left " ++ (decimal n ++ (codes " " ++ (decimal m.met ++ (codes " " ++ (decimal m.struck ++ codes ")\n")))))

abbrev pub refused_word : List ℕ → List ℕ
refused_word t = codes "(refused " ++ (t ++ codes ")\n")

abbrev pub of_flow : Wording
of_flow = record { line = λ t n m. left_line n m; refused = refused_word }
