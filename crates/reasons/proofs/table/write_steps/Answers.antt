use Rattle.std.proofs.Common.{arith}
use Rattle.reasons.proofs.Writing.{listed_none, listed_more}
use Rattle.reasons.proofs.table.write_steps.Goals as goal

pub loop-i-init : goal.loop-i-init
loop-i-init c = listed_none _ _

pub loop-i-preserved : goal.loop-i-preserved
loop-i-preserved c = listed_more c.args.joins.now c.args.table.now c.loop-i.table c.loop-i.i _ c.from.result (omega arith) (omega arith) c.from.ensures c.loop-i.invariant
