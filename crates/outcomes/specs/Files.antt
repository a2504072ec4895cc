-- What is said of a flow file. Assumes nothing.
--     refusal_line k n t   the line of a refusal with the number k, at line n, by the reader with the word t
--     refused_line r       the line of a file that is refused by r
--     checked_line o       the line of a file that was checked with the outcome o
--     visible b            the byte b as it is shown: `?` where it is not printable ASCII
--     line_text n bs       the bytes of line n of bs, counted from 0, without its line feed; empty past the last
--     explained bs r       what is said to people of the file bs, which is refused by r
use Rattle.std.specs.Prelude.{ℕ, zero, suc, ◌-◌, cond, ◌&&◌, List, [], ◌∷◌, ◌++◌, map, Ok, Err, codes, decimal, Result, ◌==◌, nat_le}
use Rattle.refusals.specs.declared.refusal.Refusal.{Refusal}
use Rattle.refusals.specs.declared.refusal.Refusal.TheVariants.{TooLong, Line}
use Rattle.refusals.specs.declared.refusal.Summary.{Summary}
use Rattle.refusals.specs.Refusals.{number_of, line_of, reader_of, reader_text, reason_of}

abbrev pub refusal_line : ℕ → ℕ → List ℕ → List ℕ
refusal_line k n t = codes "(refused " ++ (decimal k ++ (codes " " ++ (decimal n ++ (codes " " ++ (t ++ codes ")\n")))))

abbrev pub refused_line : Refusal → List ℕ
refused_line r = refusal_line (number_of r) (line_of r) (reader_text (reader_of r))

abbrev pub checked_line : Result Summary Refusal → List ℕ
checked_line (Ok s) =
    codes "(flow " ++ (decimal s.events ++ (codes " " ++ (decimal s.rules ++ (codes " " ++ (decimal s.leaves ++ codes ")\n")))))
checked_line (Err r) = refused_line r

-- 32 is the space, the first printable byte, 126 is `~`, the last, and 63 is `?`
abbrev pub visible : ℕ → ℕ
visible b = cond (nat_le 32 b && nat_le b 126) b 63

-- 10 is the line feed
abbrev pub line_text : ℕ → List ℕ → List ℕ
line_text n [] = []
line_text zero (b ∷ bs) = cond (b == 10) [] (b ∷ line_text zero bs)
line_text (suc n) (b ∷ bs) = cond (b == 10) (line_text n bs) (line_text (suc n) bs)

abbrev pub explained : List ℕ → Refusal → List ℕ
explained bs TooLong = codes "the flow file is longer than 16384 bytes"
explained bs (Line n k) =
    codes "line " ++ (decimal n ++ (codes ": " ++ (reason_of k ++ (codes ": " ++ map visible (line_text (n - 1) bs)))))
