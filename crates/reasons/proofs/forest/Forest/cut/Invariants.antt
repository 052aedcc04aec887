use Rattle.std.proofs.Common.{◌≡◌, min, vec_len}
use Rattle.reasons.proofs.forest.Forest.cut.Given as goal

abbrev pub invariant-loop-self : goal.invariant-loop-self
invariant-loop-self l = min (vec_len l.self.hung) l.k ≡ min (vec_len l.initial.self.hung) l.k

abbrev pub decreases-loop-self : goal.decreases-loop-self
decreases-loop-self l = vec_len l.self.hung
