-- What a class keeper means, and what its calls do: its representatives before and after, as a list with those of the pictures 1, 2, 3 and so on in
-- order. Assumes nothing.
use Rattle.std.specs.Prelude.{◌≡◌, ℕ, zero, suc, ◌+◌, ◌<◌, ◌≤◌, cond, ◌≢◌, ◌⊎◌, List, [], ◌∷◌, ◌++◌, map, length, Ok, Err, Result, ◌==◌, slice_index}
use Rattle.keepers.specs.declared.keeper.KeeperFault.{KeeperFault}
use Rattle.keepers.specs.declared.keeper.KeeperFault.TheVariants.{NoPicture, Full}
use Rattle.keepers.specs.declared.keeper.Outcome.{Outcome}
use Rattle.keepers.specs.declared.keeper.Outcome.TheVariants.{Already, Merged}

-- the number of a refusal
abbrev pub fault_number : KeeperFault → ℕ
fault_number NoPicture = 2
fault_number Full = 3

-- the number that join answers
abbrev pub outcome_number : Outcome → ℕ
outcome_number Already = 0
outcome_number Merged = 1

-- the representative of p
abbrev pub rep : List ℕ → ℕ → ℕ
rep rs p = slice_index (0 ∷ rs) p

-- p is one of the numbers 1 to n
abbrev pub Upto : ℕ → ℕ → Type 0
Upto n p = (0 < p) × (p ≤ n)

-- p is one of the pictures
abbrev pub Within : List ℕ → ℕ → Type 0
Within rs p = Upto (length rs) p

-- a representative is one of the pictures, and represents itself
abbrev pub Settled : List ℕ → Type 0
Settled rs = (p : ℕ) → Within rs p → Within rs (rep rs p) × (rep rs (rep rs p) ≡ rep rs p)

-- grow: one picture more that represents itself, the others keep theirs, and its number is answered; or 3, exactly where n is the capacity
abbrev pub Grown : ℕ → List ℕ → List ℕ → Result ℕ KeeperFault → Type 0
Grown cap rs rs' (Ok x) = (length rs ≢ cap) × (x ≡ length rs + 1) × (rs' ≡ rs ++ x ∷ [])
Grown cap rs rs' (Err e) = (length rs ≡ cap) × (e ≡ Full) × (rs' ≡ rs)

-- find: the representative is answered; or 2, exactly where p is no picture
abbrev pub Found : ℕ → List ℕ → Result ℕ KeeperFault → Type 0
Found p rs (Ok x) = Within rs p × (x ≡ rep rs p)
Found p rs (Err e) = (Within rs p → ⊥) × (e ≡ NoPicture)

-- r once `kept` represents those that `lost` represented
abbrev pub moved : ℕ → ℕ → ℕ → ℕ
moved lost kept r = cond (r == lost) kept r

-- the classes of p and q get one of their two representatives, and all other pictures keep theirs
abbrev pub Unites : ℕ → ℕ → List ℕ → List ℕ → Type 0
Unites p q rs rs' = (rs' ≡ map (moved (rep rs q) (rep rs p)) rs) ⊎ (rs' ≡ map (moved (rep rs p) (rep rs q)) rs)

-- what a join did: nothing where the two shared a class, else their classes are united
abbrev pub Did : ℕ → ℕ → List ℕ → List ℕ → Outcome → Type 0
Did p q rs rs' Already = (rep rs p ≡ rep rs q) × (rs' ≡ rs)
Did p q rs rs' Merged = (rep rs p ≢ rep rs q) × Unites p q rs rs'

-- join: its outcome is answered; or 2, exactly where one of the two is no picture
abbrev pub Joined : ℕ → ℕ → List ℕ → List ℕ → Result Outcome KeeperFault → Type 0
Joined p q rs rs' (Ok o) = Within rs p × Within rs q × Did p q rs rs' o
Joined p q rs rs' (Err e) = (Within rs p × Within rs q → ⊥) × (e ≡ NoPicture) × (rs' ≡ rs)

-- how many of 1 to m represent themselves
abbrev pub ends : List ℕ → ℕ → ℕ
ends rs zero = 0
ends rs (suc m) = ends rs m + cond (rep rs (suc m) == suc m) 1 0

-- the number of classes: each has one picture that represents itself
abbrev pub class_count : List ℕ → ℕ
class_count rs = ends rs (length rs)
