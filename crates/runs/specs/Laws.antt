-- What is promised of every run. Assumes nothing.
use Rattle.std.specs.Prelude.{ℕ, ◌<◌, ◌≤◌, List, length, take, slice_index_or}
use Rattle.theory.specs.Sheet.{Proper}
use Rattle.theory.specs.Statements.{Satisfiable}
use Rattle.theory.specs.Calls.{Call, Answer, Content, empty, Stands}
use Rattle.theory.specs.Runs.{Run, leaves, Within, NextEntry, MustSays, LockedShows, FewSteps}
use Rattle.runs.specs.declared.call.Call.{Call as Asked}
use Rattle.runs.specs.Calls.{Reply, call_of, log_of}

-- The calls cs are made in their order and have the answers rs, on a sheet just put together; where they are not all made, the sheet as it then is does not
-- have the next one.
pub record Answered (cap n : ℕ) (cs : List Asked) (rs : List Reply) : Type 0 where
  pub ran : Run cap (log_of n cs rs)
  pub most : length rs ≤ length cs
  pub ends : (d : Asked) → length rs < length cs → ¬ Stands (leaves empty (log_of n cs rs)) (call_of n (slice_index_or cs (length rs) d))

-- What holds of a sheet in a run, whatever the calls before were.
pub record Lawful (cap : ℕ) (s : Content) : Type 0 where
  -- the pictures and entries can stand on a sheet, and are within the limits
  pub proper : Proper s.pictures s.entries
  pub within : Within cap s
  -- some reading satisfies all entries taken
  pub satisfiable : Satisfiable s.pictures s.entries
  -- (a) the next entry that passes its other checks is refused as a contradiction exactly when no reading satisfies it and all entries taken, and else is taken
  pub next_entry : NextEntry cap s
  -- (b) must says yes exactly when every reading that satisfies all entries taken gives the two pictures one value
  pub must_says : MustSays cap s
  -- (c) the reading that apply gives satisfies all entries taken, gives each picture what value answers, and shows nothing more than is forced
  pub locked_shows : LockedShows cap s
  -- (d) a chain that a call writes has fewer steps than there are pictures
  pub few_steps : FewSteps cap s

-- The law over runs: it holds before the first call of the log and after each.
abbrev pub Law : ℕ → List (Call × Answer) → Type 0
Law cap log = (i : ℕ) → Lawful cap (leaves empty (take i log))
