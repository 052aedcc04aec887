-- The numbers of a row. Assumes nothing.
use Rattle.std.specs.Prelude.{ℕ, List, take}
use Rattle.rows.specs.declared.row.Row.{Row}

-- the numbers that a row has
abbrev pub cells_of : {N : ℕ} → Row N → List ℕ
cells_of w = take w.len w.cells
