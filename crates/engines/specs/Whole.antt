-- What holds of every sheet between two calls. Assumes nothing.
use Rattle.std.specs.Prelude.{ℕ, ◌≤◌, List, [], length, vec_items, All, Option}
use Rattle.keepers.specs.Meaning.{rep}
use Rattle.keepers.specs.declared.keeper.Keeper.{Ghosts as Kept}
use Rattle.indexes.specs.Meaning.{held}
use Rattle.indexes.specs.declared.index.Index.{Ghosts as Found}
use Rattle.theory.specs.Sheet.{Entry, Placed, Breaks}
use Rattle.theory.specs.Reasons.{Derivation}
use Rattle.congruence.specs.declared.journal.Join.{Join}
use Rattle.congruence.specs.declared.picture.Picture.{Picture as Held}
use Rattle.congruence.specs.Drawn.{sheet, reasons}
use Rattle.congruence.specs.Working.{Closes}
use Rattle.congruence.specs.Waiting.{Working, Idle, Exact}
use Rattle.engines.specs.declared.open.Open.{Open}
use Rattle.engines.specs.Content.{entries_on}

-- A sheet at rest, by its keeper's capacity and representatives, its pictures as they are held, its entries, its index's map and its journal.
pub record Rests (cap : ℕ) (rs : List ℕ) (ps : List Held) (E : List Entry) (m : ℕ → List ℕ → Option ℕ) (J : List Join) : Type 0 where
  -- two pictures are in one class exactly when the congruence closure of the pictures and the entries taken has them so
  pub closes : Closes (sheet ps) E (rep rs)
  -- the index gives, for each signature borne by a picture, one picture that bears it, and nothing for any other
  pub exact : Exact (rep rs) (sheet ps) m
  -- no `differ` entry is broken, so some reading satisfies the entries
  pub unbroken : All (λ e. ¬ Breaks (sheet ps) E e) E
  -- the entries speak of pictures on the sheet, and the keeper has room for these
  pub placed : All (Placed (sheet ps)) E
  pub room : length (sheet ps) ≤ cap
  -- the journal is a reason chain, it tells the classes, and no picture waits
  pub derived : Derivation (sheet ps) E [] (reasons J)
  pub working : Working rs ps m J
  pub idle : Idle ps

-- A sheet is whole: it rests, whatever its keeper and index are.
abbrev pub Whole : {X Y : Type 0} (kept : Kept X) (found : Found Y) → Open X Y kept found → Type 0
Whole kept found o = Rests kept.limit (kept.reps o.congruence.keeper) (vec_items o.congruence.pictures) (entries_on o) (held (found.leads o.congruence.index)) (vec_items o.congruence.journal)
