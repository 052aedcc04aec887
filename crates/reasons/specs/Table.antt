-- What the host reads in its step table: a reason chain, one step to a cell. Assumes nothing.
use Rattle.std.specs.Prelude.{◌≡◌, ℕ, suc, ◌-◌, ◌<◌, ◌≤◌, cond, List, [], ◌∷◌, map, length, All, ◌==◌, slice_index_or}
use Rattle.std.specs.List.{range_with_len}
use Rattle.theory.specs.Sheet.{Picture, Entry}
use Rattle.theory.specs.Reasons.{Reason, by_entry, by_twins, Explains}
use Rattle.chains.specs.Chain.{Chain}
use Rattle.chains.specs.Thread.{first_of, next_in}
use Rattle.congruence.specs.declared.journal.Cause.{Cause}
use Rattle.congruence.specs.declared.journal.Cause.TheVariants.{Entry as Numbered, Twins}
use Rattle.congruence.specs.declared.journal.Join.{Join}
use Rattle.reasons.specs.declared.step.Step.{Step}

-- A cell of kind 1 names a `same` entry by its number, with its two pictures, left first; a cell of kind 2 names two twins, and no entry.
abbrev pub Names : Reason → Step → Type 0
Names (by_entry l r k) c = (c.kind ≡ 1) × (c.left ≡ l) × (c.right ≡ r) × (c.entry ≡ k)
Names (by_twins l r) c = (c.kind ≡ 2) × (c.left ≡ l) × (c.right ≡ r) × (c.entry ≡ 0)

-- what stands at a number that is no cell's
abbrev pub empty_cell : Step
empty_cell = record { kind = 0; left = 0; right = 0; entry = 0; next = 0 }

-- The cells of the path name the steps, in order. Cell k stands at place k - 1 of the table.
abbrev pub Along : List Step → List ℕ → List Reason → Type 0
Along table [] [] = Unit {0}
Along table [] (s ∷ T) = ⊥
Along table (k ∷ path) [] = ⊥
Along table (k ∷ path) (s ∷ T) = Names s (slice_index_or table (k - 1) empty_cell) × Along table path T

-- how often k stands on the path
abbrev pub occurs : ℕ → List ℕ → ℕ
occurs k [] = 0
occurs k (j ∷ path) = cond (j == k) (suc (occurs k path)) (occurs k path)

-- The cells from the place m on are as before.
abbrev pub Rest : ℕ → List Step → List Step → Type 0
Rest m before after = (k : ℕ) (e : Step) → m ≤ k → slice_index_or after k e ≡ slice_index_or before k e

-- The steps T stand in the cells 1 to length T, each used once, as a chain that begins at cell 1, unless T is empty, and ends with a next of 0; every
-- other cell is as before.
pub record Chained (T : List Reason) (before after : List Step) : Type 0 where
  pub path : List ℕ
  pub walk : Chain (map (λ c. c.next) after) (first_of (length T)) path
  pub once : (k : ℕ) → 1 ≤ k → k ≤ length T → occurs k path ≡ 1
  pub only : All (λ k. k ≤ length T) path
  pub along : Along after path T
  pub rest : Rest (length T) before after

-- The table has a reason chain of m steps that joins a and b.
pub record Written (P : List Picture) (E : List Entry) (a b m : ℕ) (before after : List Step) : Type 0 where
  pub steps : List Reason
  pub many : m ≡ length steps
  pub explains : Explains P E a b steps
  pub chained : Chained steps before after

-- Where the steps T are a reason chain that joins a and b, whatever the entries are, the table has such a chain, of m steps.
abbrev pub Explained : List Picture → List Reason → ℕ → ℕ → ℕ → List Step → List Step → Type 0
Explained P T a b m before after = (E : List Entry) → Explains P E a b T → Written P E a b m before after

-- the cell of two pictures that were joined for this cause, with this next
abbrev pub cell_by : ℕ → ℕ → Cause → ℕ → Step
cell_by l r (Numbered k) n = record { kind = 1; left = l; right = r; entry = k; next = n }
cell_by l r Twins n = record { kind = 2; left = l; right = r; entry = 0; next = n }

-- the cell of a join
abbrev pub cell_of : Join → ℕ → Step
cell_of j n = cell_by j.left j.right j.cause n

-- The first i joins stand in the cells from 1 on, and the other cells are as before.
pub record Listed (joins : List Join) (before after : List Step) (i : ℕ) : Type 0 where
  pub cells : (k : ℕ) (d : Join) (e : Step) → k < i → slice_index_or after k e ≡ cell_of (slice_index_or joins k d) 0
  pub rest : Rest i before after

-- The joins stand in the cells from 1 on, which are one chain in their order, and the other cells are as before.
pub record Laid (joins : List Join) (before after : List Step) : Type 0 where
  pub cells : (k : ℕ) (d : Join) (e : Step) → k < length joins → slice_index_or after k e ≡ cell_of (slice_index_or joins k d) (next_in (length joins) k)
  pub rest : Rest (length joins) before after
  pub path : Chain (map (λ c. c.next) after) (first_of (length joins)) (range_with_len 1 (length joins))
