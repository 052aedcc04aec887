-- The sheet of a run between two calls, and one call on it. Assumes nothing.
use Rattle.std.specs.Prelude.{◌≡◌, ℕ, Some, None, Option}
use Rattle.keepers.specs.declared.keeper.Keeper.{Ghosts as Kept}
use Rattle.indexes.specs.declared.index.Index.{Ghosts as Found}
use Rattle.theory.specs.Calls.{Content, Call, Stands, Answers, after}
use Rattle.engines.specs.Content.{content}
use Rattle.engines.specs.Locked.{locked_content, WholeLocked}
use Rattle.engines.specs.Whole.{Whole}
use Rattle.runs.specs.declared.state.State.{State}
use Rattle.runs.specs.declared.state.State.TheVariants.{Opened, Closed}
use Rattle.runs.specs.Calls.{Reply, reply_of}

-- what the sheet holds
abbrev pub state_content : {X Y : Type 0} {kept : Kept X} {found : Found Y} → State X Y kept found → Content
state_content (Opened o) = content o
state_content (Closed l) = locked_content l

-- the sheet is whole
abbrev pub WholeState : {X Y : Type 0} (kept : Kept X) (found : Found Y) → State X Y kept found → Type 0
WholeState kept found (Opened o) = Whole kept found o
WholeState kept found (Closed l) = WholeLocked kept found l

-- A call on a sheet that holds s, which then holds t: it may stand there, has its answer, and leaves what that leaves; or it may not stand there, and
-- nothing changes.
abbrev pub GoesOn : ℕ → Content → Call → Option Reply → Content → Type 0
GoesOn cap s c (Some r) t = Stands s c × Answers cap s c (reply_of r) × (t ≡ after s c (reply_of r))
GoesOn cap s c None t = (¬ Stands s c) × (t ≡ s)
