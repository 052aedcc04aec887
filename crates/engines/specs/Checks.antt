-- The checks that need no more than numbers, in their order. Assumes nothing.
use Rattle.std.specs.Prelude.{ℕ, ◌<◌, ◌≤◌, Bool, ◌||◌, List, ◌==◌, nat_lt}
use Rattle.std.specs.List.{list_any}
use Rattle.keepers.specs.Meaning.{Upto}
use Rattle.engines.specs.declared.fault.SheetFault.{SheetFault}
use Rattle.engines.specs.declared.fault.SheetFault.TheVariants.{FewCells, NoPicture, Full, Contradiction, Inputs, Apart}

-- p is 0 or above the count n
abbrev pub absent : ℕ → ℕ → Bool
absent n p = p == 0 || nat_lt n p

-- one of the numbers is 0 or above the count
abbrev pub any_absent : ℕ → List ℕ → Bool
any_absent n ps = list_any (absent n) ps

-- both are pictures of n
abbrev pub Both : ℕ → ℕ → ℕ → Type 0
Both n a b = Upto n a × Upto n b

-- why the checks of an entry that come before the one for a contradiction stop it: too few cells, then a number that is no picture's, then no place
abbrev pub Stopped : ℕ → ℕ → ℕ → ℕ → ℕ → SheetFault → Type 0
Stopped cells n taken a b FewCells = cells < 1024
Stopped cells n taken a b NoPicture = (1024 ≤ cells) × (¬ Both n a b)
Stopped cells n taken a b Full = (1024 ≤ cells) × Both n a b × (2048 ≤ taken)
Stopped cells n taken a b (Contradiction c) = ⊥
Stopped cells n taken a b Inputs = ⊥
Stopped cells n taken a b Apart = ⊥

-- what an entry has that passes them
pub record Passed (cells n taken a b : ℕ) : Type 0 where
  pub enough : 1024 ≤ cells
  pub both : Both n a b
  pub place : taken < 2048
