-- The first cell of a path whose record passes, with the cell before it. Assumes nothing.
use Rattle.std.specs.Prelude.{ℕ, ◌-◌, Bool, false, cond, List, [], ◌∷◌, Some, None, Option, slice_index_or}
use Rattle.chains.specs.declared.walks.Found.{Found}

-- `marks` says of each cell whether its record passes; `before` is the cell before the path
abbrev pub seek : List Bool → ℕ → List ℕ → Option Found
seek marks before [] = None
seek marks before (k ∷ path) = cond (slice_index_or marks (k - 1) false) (Some (record { before = before; cell = k })) (seek marks k path)
