-- The broken entry, by the representatives that the keeper has. Assumes nothing.
use Rattle.std.specs.Prelude.{◌≡◌, ℕ, ◌<◌, Bool, true, false, List, length, Some, None, Option, ◌==◌, slice_index_or}
use Rattle.keepers.specs.Meaning.{rep, Upto}
use Rattle.engines.specs.declared.entry.Entry.{Entry}
use Rattle.engines.specs.declared.entry.Entry.TheVariants.{Same, Differ}

-- the first picture of an entry
abbrev pub left_of : Entry → ℕ
left_of (Same a b) = a
left_of (Differ a b) = a

-- the second
abbrev pub right_of : Entry → ℕ
right_of (Same a b) = b
right_of (Differ a b) = b

-- both are among the pictures 1 to n
abbrev pub Inside : ℕ → Entry → Type 0
Inside n e = Upto n (left_of e) × Upto n (right_of e)

-- whether an entry is a `differ` entry whose pictures have one representative
abbrev pub broken : List ℕ → Entry → Bool
broken rs (Same a b) = false
broken rs (Differ a b) = rep rs a == rep rs b

-- none of the first i entries is broken
abbrev pub Unbroken : List ℕ → List Entry → ℕ → Type 0
Unbroken rs E i = (k : ℕ) (d : Entry) → k < i → k < length E → broken rs (slice_index_or E k d) ≡ false

-- the place of the lowest broken entry, or that there is none
abbrev pub FirstBroken : List ℕ → List Entry → Option ℕ → Type 0
FirstBroken rs E None = Unbroken rs E (length E)
FirstBroken rs E (Some i) = (i < length E) × ((d : Entry) → broken rs (slice_index_or E i d) ≡ true) × Unbroken rs E i
