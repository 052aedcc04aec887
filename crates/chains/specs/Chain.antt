-- A chain, by the list of its cells' numbers; `links` has the next of each cell, and cell k stands at k - 1. Assumes nothing.
use Rattle.std.specs.Prelude.{◌≡◌, ℕ, ◌-◌, ◌<◌, ◌≤◌, List, [], ◌∷◌, length, ◌≢◌, slice_index}

-- the cell after cell k
abbrev pub after_cell : List ℕ → ℕ → ℕ
after_cell links k = slice_index links (k - 1)

-- from head on, the cells are those of the path, in order, and then the chain ends
abbrev pub Chain : List ℕ → ℕ → List ℕ → Type 0
Chain links head [] = head ≡ 0
Chain links head (k ∷ path) = (head ≡ k) × (0 < k) × (k ≤ length links) × Chain links (after_cell links k) path

-- the path does not have cell k
abbrev pub Clear : ℕ → List ℕ → Type 0
Clear k [] = Unit {0}
Clear k (j ∷ path) = (j ≢ k) × Clear k path

-- the last number of a list, d where it has none
abbrev pub last_or : ℕ → List ℕ → ℕ
last_or d [] = d
last_or d (k ∷ path) = last_or k path
