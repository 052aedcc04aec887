-- The numbers of a line that was read. Assumes nothing.
use Rattle.std.specs.Prelude.{ℕ, List}
use Rattle.rows.specs.Row.{cells_of}
use Rattle.printouts.specs.declared.line.Line.{Line}

-- the numbers of its row
abbrev pub line_numbers : Line → List ℕ
line_numbers l = cells_of l.numbers
