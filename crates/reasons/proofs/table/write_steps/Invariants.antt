use Rattle.reasons.specs.Table.{Listed}
use Rattle.reasons.proofs.table.write_steps.Given as goal

abbrev pub invariant-loop-i : goal.invariant-loop-i
invariant-loop-i l = Listed l.joins l.initial.table l.table l.i
