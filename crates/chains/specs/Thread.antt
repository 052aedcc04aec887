-- Cells 1 to m chained in their order. Assumes nothing.
use Rattle.std.specs.Prelude.{◌≡◌, ℕ, ◌+◌, ◌<◌, cond, List, length, ◌==◌, nat_lt, slice_index_or}

-- the cell after the one at place k, where m are chained
abbrev pub next_in : ℕ → ℕ → ℕ
next_in m k = cond (nat_lt (k + 1) m) (k + 2) 0

-- the head of a chain of m cells that begins at cell 1
abbrev pub first_of : ℕ → ℕ
first_of m = cond (m == 0) 0 1

-- the record at place k, where the first j places have been given their next of m
abbrev pub threaded : {R : Type 0} → (R → ℕ → R) → ℕ → ℕ → ℕ → R → R
threaded led m j k r = cond (nat_lt k j) (led r (next_in m k)) r

-- the first j places have been given their next of m, and the others are as they were
abbrev pub Threaded : {R : Type 0} → (R → ℕ → R) → ℕ → ℕ → List R → List R → Type 0
Threaded {R} led m j xs ys = (k : ℕ) (d : R) → k < length xs → slice_index_or ys k d ≡ threaded led m j k (slice_index_or xs k d)
