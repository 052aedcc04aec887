-- What holds of pictures and the classes that their joins force, whatever their keeper and index are. Assumes nothing.
use Rattle.std.specs.Prelude.{◌≡◌, ℕ, ◌+◌, ◌≤◌, ◌≢◌, List, [], ◌∷◌, ◌++◌, length, vec_items, vec_capacity, Ok, Err, Result}
use Rattle.keepers.specs.declared.keeper.Keeper.{Ghosts as Kept}
use Rattle.keepers.specs.declared.keeper.KeeperFault.{KeeperFault}
use Rattle.keepers.specs.declared.keeper.KeeperFault.TheVariants.{Full}
use Rattle.indexes.specs.Meaning.{held}
use Rattle.indexes.specs.declared.index.Index.{Ghosts as Found}
use Rattle.congruence.specs.declared.congruence.Congruence.{Congruence}
use Rattle.congruence.specs.Drawn.{sheet}
use Rattle.congruence.specs.Working.{Holding, Progress}
use Rattle.congruence.specs.Waiting.{Working}

-- classes, journal, pictures and index stand as they do between two joins
abbrev pub Works : {X Y : Type 0} (kept : Kept X) (found : Found Y) → Congruence X Y → Type 0
Works kept found c = Working (kept.reps c.keeper) (vec_items c.pictures) (held (found.leads c.index)) (vec_items c.journal)

-- the least that twins can be put together with, and room for as many joins as pictures can cost
pub record Holds {X Y : Type 0} (kept : Kept X) (found : Found Y) (c : Congruence X Y) : Type 0 where
  pub holding : Holding (kept.reps c.keeper) (vec_items c.pictures) (held (found.leads c.index)) (vec_items c.journal)
  pub room : 1024 ≤ vec_capacity c.journal

-- c' means what c means: the representatives, the index, the pictures and the journal are the same
pub record Alike {X Y : Type 0} (kept : Kept X) (c c' : Congruence X Y) : Type 0 where
  pub reps : kept.reps c'.keeper ≡ kept.reps c.keeper
  pub index : c'.index ≡ c.index
  pub pictures : c'.pictures ≡ c.pictures
  pub journal : c'.journal ≡ c.journal

-- one picture more, of the operation o with the inputs w: its number is answered, and it stands behind the others; or the keeper is full, and nothing changed
abbrev pub DrawnOne : {X Y : Type 0} (kept : Kept X) → ℕ → List ℕ → Congruence X Y → Congruence X Y → Result ℕ KeeperFault → Type 0
DrawnOne kept o w c c' (Ok n) =
    (length (kept.reps c.keeper) ≢ kept.limit)
    × (n ≡ length (kept.reps c.keeper) + 1)
    × (sheet (vec_items c'.pictures) ≡ sheet (vec_items c.pictures) ++ record { operation = o; inputs = w } ∷ [])
    × Progress (kept.reps c.keeper ++ n ∷ []) (kept.reps c'.keeper) (length (vec_items c.journal)) (length (vec_items c'.journal))
DrawnOne kept o w c c' (Err e) = (length (kept.reps c.keeper) ≡ kept.limit) × (e ≡ Full) × Alike kept c c'
