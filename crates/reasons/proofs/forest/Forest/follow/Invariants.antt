use Rattle.std.proofs.Common.{◌≡◌, ◌+◌, vec_len}
use Rattle.reasons.proofs.forest.Forest.follow.Given as goal

abbrev pub invariant-loop-join : goal.invariant-loop-join
invariant-loop-join l = vec_len l.self.hung ≡ vec_len l.initial.self.hung + l.join-index
