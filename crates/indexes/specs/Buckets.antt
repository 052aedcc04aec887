-- The cells of a chained index: what they hold, and which bucket's chain has each. Assumes nothing.
use Rattle.std.specs.Prelude.{◌≡◌, ℕ, ◌-◌, ◌<◌, ◌≤◌, Bool, true, false, List, [], ◌∷◌, ◌++◌, map, length, Some, None, Option, ◌≢◌, slice_index, slice_index_or, slice_set}
use Rattle.std.specs.Option.{option_map}
use Rattle.chains.specs.Chain.{Chain, Clear, last_or}
use Rattle.chains.specs.Build.{with_next, unlinked}
use Rattle.chains.specs.declared.walks.Found.{Found}
use Rattle.indexes.specs.declared.cell.Cell.{Cell}
use Rattle.indexes.specs.Meaning.{Lead, same_signature}
use Rattle.indexes.specs.Records.{lead_of}
use Rattle.indexes.specs.Hash.{bucket_of_signature}

-- the number of the next cell
abbrev pub link_of : Cell → ℕ
link_of c = c.next

-- the cell with another next
abbrev pub led_to : Cell → ℕ → Cell
led_to c n = record { body = c.body; next = n }

-- a free cell
abbrev pub spare : Cell
spare = record { body = None; next = 0 }

-- what the cell holds, nothing where it is free
abbrev pub lead_in : Cell → Option Lead
lead_in c = option_map lead_of c.body

-- the bucket for what a cell holds: that of its signature, and 0 for nothing
abbrev pub bucket_for : Option Lead → ℕ
bucket_for None = 0
bucket_for (Some e) = bucket_of_signature e.op e.row

-- the bucket whose chain has the cell
abbrev pub bucket_of : Cell → ℕ
bucket_of c = bucket_for (lead_in c)

-- what a cell holds has the signature o w
abbrev pub bears : Option Lead → ℕ → List ℕ → Bool
bears None o w = false
bears (Some e) o w = same_signature e.op e.row o w

-- the cell is used, and has the signature o w
abbrev pub bears_at : Cell → ℕ → List ℕ → Bool
bears_at c o w = bears (lead_in c) o w

-- what is there, in order
abbrev pub somes : List (Option Lead) → List Lead
somes [] = []
somes (None ∷ xs) = somes xs
somes (Some e ∷ xs) = e ∷ somes xs

-- what the used cells hold, in the order of the cells
abbrev pub leads_of : List Cell → List Lead
leads_of cs = somes (map lead_in cs)

-- the chain from head on has just the cells of bucket b
pub record Bucket (links buckets : List ℕ) (head b : ℕ) (p : List ℕ) : Type 0 where
  pub chain : Chain links head p
  -- a cell of another bucket is not on it
  pub only : (k : ℕ) → (slice_index buckets (k - 1) ≢ b) → Clear k p
  -- a cell of this one is
  pub whole : (k : ℕ) → 0 < k → k ≤ length links → slice_index buckets (k - 1) ≡ b → Clear k p → ⊥

-- there is such a chain
abbrev pub SortedOut : List ℕ → List ℕ → ℕ → ℕ → Type 0
SortedOut links buckets head b = ∥ ((p : List ℕ) × Bucket links buckets head b p) ∥₁

-- a cell on the chain from head on, and the one before it
pub record On (links : List ℕ) (head : ℕ) (f : Found) : Type 0 where
  pub front : List ℕ
  pub rest : List ℕ
  pub chain : Chain links head (front ++ f.cell ∷ rest)
  pub before : f.before ≡ last_or 0 front

-- the cell f has the signature o w, and stands on the chain of its bucket
pub record Located (cs : List Cell) (heads : List ℕ) (o : ℕ) (w : List ℕ) (f : Found) : Type 0 where
  pub low : 0 < f.cell
  pub high : f.cell ≤ length cs
  pub bears : (d : Cell) → bears_at (slice_index_or cs (f.cell - 1) d) o w ≡ true
  pub on : On (map link_of cs) (slice_index heads (bucket_of_signature o w)) f

-- the cells once f is out of its chain
abbrev pub left_out : List Cell → Found → List Cell
left_out cs f = unlinked link_of led_to cs f

-- the cells once f is out of its chain, holds what b holds, and stands in front of the chain from `to` on
abbrev pub moved_cell : List Cell → Found → ℕ → Cell → List Cell
moved_cell cs f to b = with_next led_to (slice_set (left_out cs f) (f.cell - 1) b) f.cell to
