use Rattle.std.proofs.Common.{◌≡◌, length, take, vec_capacity}
use Rattle.theory.specs.Slices.{kept}
use Rattle.reasons.proofs.explainer.calls.gather.Given as goal

abbrev pub invariant-loop-join : goal.invariant-loop-join
invariant-loop-join l = let n = length l.yielded in
    (l.chosen.items ≡ kept (take n l.marks) (take n l.journal)) × (vec_capacity l.chosen ≡ vec_capacity l.initial.chosen)
