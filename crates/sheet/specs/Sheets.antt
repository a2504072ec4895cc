-- What sheets tell. Assumes nothing.
--     IsSheet es       the events es can stand on one sheet: there are at most twelve
use Rattle.std.specs.Prelude.{◌≤◌, List, length}
use Rattle.sheet.specs.declared.grade.Event.{Event}

abbrev pub IsSheet : List Event → Type 0
IsSheet es = length es ≤ 12
