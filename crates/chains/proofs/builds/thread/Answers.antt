use Rattle.std.proofs.Common.{◌++◌, drop, arith}
use Rattle.std.proofs.lemmas.Grind.{common_steps}
use Rattle.chains.proofs.Threads.{thread-chain}
use Rattle.chains.proofs.builds.thread.Goals as goal

pub returns-else-m-eq0-clause-chain : goal.returns-else-m-eq0-clause-chain
returns-else-m-eq0-clause-chain g c =
    let L = g.R.Linked in
    let xs = c.args.cells.now in
    let ys = c.loop-i.cell-items ++ drop c.args.m xs in
    thread-chain L.led L.after g.met.R.Linked.leads c.args.m xs ys (grind (arith, common_steps)) c.if-m-cells.false (grind (arith, common_steps)) c.if-m-eq0.false
