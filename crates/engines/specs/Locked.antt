-- What a locked sheet holds. Assumes nothing.
use Rattle.std.specs.Prelude.{true}
use Rattle.keepers.specs.declared.keeper.Keeper.{Ghosts as Kept}
use Rattle.indexes.specs.declared.index.Index.{Ghosts as Found}
use Rattle.theory.specs.Calls.{Content}
use Rattle.engines.specs.declared.locked.Locked.{Locked}
use Rattle.engines.specs.Content.{pictures_on, entries_on}
use Rattle.engines.specs.Whole.{Whole}

-- what a locked sheet holds: the pictures and entries of the sheet that was locked
abbrev pub locked_content : {X Y : Type 0} {kept : Kept X} {found : Found Y} → Locked X Y kept found → Content
locked_content l = record { locked = true; pictures = pictures_on l.sheet; entries = entries_on l.sheet }

-- a locked sheet is whole when the sheet that was locked is
abbrev pub WholeLocked : {X Y : Type 0} (kept : Kept X) (found : Found Y) → Locked X Y kept found → Type 0
WholeLocked kept found l = Whole kept found l.sheet
