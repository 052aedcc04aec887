use Rattle.std.proofs.Common.{◌≡◌, ◌≤◌, ◌-◌, length}
use Rattle.keepers.specs.Meaning.{ends}
use Rattle.congruence.proofs.rooting.classes.Given as goal

abbrev pub invariant-loop-p : goal.invariant-loop-p
invariant-loop-p g l =
    let rs = g.K.Keeper.reps l.initial.k in
    (g.K.Keeper.reps l.k ≡ rs) × (l.c ≡ ends rs (l.p - 1)) × (l.c ≤ l.p - 1) × (l.p - 1 ≤ length rs)
