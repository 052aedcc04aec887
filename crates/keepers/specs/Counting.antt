-- What two calls of a keeper answer together. Assumes nothing.
use Rattle.std.specs.Prelude.{◌≡◌, ℕ, ◌+◌, ◌<◌, ◌≤◌, Bool, List, Ok, Err, Result, ◌==◌}
use Rattle.std.specs.List.{range_with_len}
use Rattle.keepers.specs.declared.keeper.KeeperFault.{KeeperFault}
use Rattle.keepers.specs.declared.keeper.KeeperFault.TheVariants.{NoPicture, Full}
use Rattle.keepers.specs.declared.keeper.Outcome.{Outcome}
use Rattle.keepers.specs.Meaning.{rep, Within, Joined, outcome_number, class_count}

-- whether p and q have one representative; or 2, exactly where one of the two is no picture
abbrev pub Asked : ℕ → ℕ → List ℕ → Result Bool KeeperFault → Type 0
Asked p q rs (Ok b) = Within rs p × Within rs q × (b ≡ (rep rs p == rep rs q))
Asked p q rs (Err e) = (Within rs p × Within rs q → ⊥) × (e ≡ NoPicture)

-- a join that lowered the number of classes by j, which is what its outcome says; or 2, exactly where one of the two is no picture, and nothing changed
abbrev pub Lowered : ℕ → ℕ → List ℕ → List ℕ → Result ℕ KeeperFault → Type 0
Lowered p q rs rs' (Ok j) = (o : Outcome) × Joined p q rs rs' (Ok o) × (j ≡ outcome_number o) × (class_count rs' + j ≡ class_count rs)
Lowered p q rs rs' (Err e) = Joined p q rs rs' (Err e)

-- n pictures, each alone; or 3, exactly where n is above the capacity, and as many as the capacity
abbrev pub Populated : ℕ → ℕ → List ℕ → Result Unit KeeperFault → Type 0
Populated cap n rs (Ok _) = (n ≤ cap) × (rs ≡ range_with_len 1 n)
Populated cap n rs (Err e) = (cap < n) × (e ≡ Full) × (rs ≡ range_with_len 1 cap)
