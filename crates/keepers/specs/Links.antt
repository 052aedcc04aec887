-- A table of parent links: the link of picture x stands at place x, and a root leads to itself. Assumes nothing.
use Rattle.std.specs.Prelude.{ℕ, zero, suc, ◌+◌, ◌-◌, ◌<◌, ◌≤◌, ◌≢◌, List, map, length, slice_index_or}
use Rattle.std.specs.List.{range_with_len}
use Rattle.keepers.specs.declared.link.Link.{Link}
use Rattle.keepers.specs.Meaning.{Upto, class_count}

-- the link at no place
abbrev pub bare : Link
bare = record { parent = 0; rank = 0 }

-- where the link of x leads
abbrev pub parent : List Link → ℕ → ℕ
parent ls x = (slice_index_or ls x bare).parent

-- the rank of x
abbrev pub rank : List Link → ℕ → ℕ
rank ls x = (slice_index_or ls x bare).rank

-- the number of pictures: place 0 is no picture's
abbrev pub pictures : List Link → ℕ
pictures ls = length ls - 1

-- where so many links lead from x
abbrev pub climb : List Link → ℕ → ℕ → ℕ
climb ls zero x = x
climb ls (suc s) x = climb ls s (parent ls x)

-- where the links from x end: on n pictures n links suffice
abbrev pub root : ℕ → List Link → ℕ → ℕ
root n ls x = climb ls n x

-- the roots of 1 to n
abbrev pub roots : ℕ → List Link → List ℕ
roots n ls = map (root n ls) (range_with_len 1 n)

-- links lead from pictures to pictures, and the rank rises along a link
abbrev pub Rising : ℕ → List Link → Type 0
Rising n ls = (x : ℕ) → Upto n x → Upto n (parent ls x) × (parent ls x ≢ x → rank ls x < rank ls (parent ls x))

-- a rank is at most the number of joins that were made
abbrev pub Low : ℕ → List Link → Type 0
Low n ls = (x : ℕ) → Upto n x → rank ls x + class_count (roots n ls) ≤ n

-- a table of links for n pictures
pub record Table (n : ℕ) (ls : List Link) : Type 0 where
  pub room : n < length ls
  pub rising : Rising n ls
  pub low : Low n ls
