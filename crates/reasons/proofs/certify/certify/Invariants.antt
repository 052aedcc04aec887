use Rattle.std.proofs.Common.{length}
use Rattle.congruence.specs.Drawn.{sheet, reasons}
use Rattle.reasons.proofs.States.{State}
use Rattle.reasons.proofs.certify.certify.Given as goal

abbrev pub invariant-loop-join : goal.invariant-loop-join
invariant-loop-join g l = State (sheet l.asked.pictures.now) (reasons l.asked.journal.now) l.marks (length l.yielded) (g.S.Keeper.reps l.scratch)
