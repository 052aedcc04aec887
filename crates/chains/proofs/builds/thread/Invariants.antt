use Rattle.std.proofs.Common.{take}
use Rattle.chains.specs.Thread.{Threaded}
use Rattle.chains.proofs.builds.thread.Given as goal

abbrev pub invariant-loop-i : goal.invariant-loop-i
invariant-loop-i g l = Threaded g.R.Linked.led l.m l.i (take l.m l.fn.cells) l.cell-items
