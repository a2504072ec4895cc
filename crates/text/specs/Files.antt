-- Lines that are cut out of a file. Assumes nothing.
--     bytes_of l        the bytes of the line l, without its line feed
--     CutAt bs a n l    l is the line of the file bs that begins at place a, and has the number n
--     LineAt bs a n r   r is that line, if all its bytes may stand in a flow file; else the fault of line n
use Rattle.std.specs.Prelude.{◌≡◌, ℕ, List, length, take, drop, Ok, Err, Result}
use Rattle.text.specs.declared.line.Line.{Line}
use Rattle.text.specs.declared.line.ByteFault.{ByteFault}
use Rattle.text.specs.Lines.{FirstLine, ended, Strange}

abbrev pub bytes_of : Line → List ℕ
bytes_of l = drop l.start l.text.now

pub record CutAt (bs : List ℕ) (a n : ℕ) (l : Line) : Type 0 where
  pub start : l.start ≡ a
  pub number : l.number ≡ n
  pub text : l.text.now ≡ take (length l.text.now) bs
  pub first : FirstLine (drop a bs) (bytes_of l) (drop (length l.text.now) bs)
  pub feed : l.ended ≡ ended (drop (length l.text.now) bs)

abbrev pub LineAt : List ℕ → ℕ → ℕ → Result Line ByteFault → Type 0
LineAt bs a n (Ok l) = CutAt bs a n l × (Strange (bytes_of l) → ⊥)
LineAt bs a n (Err f) = (f.line ≡ n) × ((l : Line) × CutAt bs a n l × Strange (bytes_of l))
