use Rattle.std.proofs.Common.{◌≡◌, length}
use Rattle.congruence.proofs.restoring.reach.Given as goal

abbrev pub invariant-loop-i : goal.invariant-loop-i
invariant-loop-i g l = length (g.K.Keeper.reps l.k) ≡ l.n
