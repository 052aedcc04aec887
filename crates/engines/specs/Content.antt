-- What a sheet holds, in the words of the definitions. Assumes nothing.
use Rattle.std.specs.Prelude.{false, List, map, vec_items}
use Rattle.keepers.specs.declared.keeper.Keeper.{Ghosts as Kept}
use Rattle.indexes.specs.declared.index.Index.{Ghosts as Found}
use Rattle.theory.specs.Sheet.{Picture, Entry, same, differ}
use Rattle.theory.specs.Calls.{Content}
use Rattle.congruence.specs.Drawn.{sheet}
use Rattle.engines.specs.declared.entry.Entry.{Entry as Told}
use Rattle.engines.specs.declared.entry.Entry.TheVariants.{Same, Differ}
use Rattle.engines.specs.declared.open.Open.{Open}

-- an entry
abbrev pub entry_of : Told → Entry
entry_of (Same a b) = same a b
entry_of (Differ a b) = differ a b

-- entries
abbrev pub taken : List Told → List Entry
taken es = map entry_of es

-- the pictures on a sheet
abbrev pub pictures_on : {X Y : Type 0} {kept : Kept X} {found : Found Y} → Open X Y kept found → List Picture
pictures_on o = sheet (vec_items o.congruence.pictures)

-- the entries that it has taken
abbrev pub entries_on : {X Y : Type 0} {kept : Kept X} {found : Found Y} → Open X Y kept found → List Entry
entries_on o = taken (vec_items o.entries)

-- what an open sheet holds
abbrev pub content : {X Y : Type 0} {kept : Kept X} {found : Found Y} → Open X Y kept found → Content
content o = record { locked = false; pictures = pictures_on o; entries = entries_on o }
