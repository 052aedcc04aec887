use Rattle.std.proofs.Common.{◌≤◌, length, vec_items, vec_capacity}
use Rattle.runs.specs.States.{state_content, WholeState}
use Rattle.runs.proofs.Logs.{Runs}
use Rattle.runs.proofs.running.run.Given as goal

abbrev pub invariant-loop-call : goal.invariant-loop-call
invariant-loop-call g l =
    WholeState g.K.Keeper g.I.Index l.state
    × Runs g.K.Keeper.limit (length l.initial.table) l.calls (vec_items l.answers) l.call-index (state_content l.state)
    × (length l.calls ≤ vec_capacity l.answers)
