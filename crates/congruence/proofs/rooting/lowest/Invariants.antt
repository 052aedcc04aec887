use Rattle.std.proofs.Common.{◌≡◌, ℕ, ◌<◌, ◌≢◌}
use Rattle.keepers.specs.Meaning.{rep}
use Rattle.congruence.proofs.rooting.lowest.Given as goal

abbrev pub invariant-loop-q : goal.invariant-loop-q
invariant-loop-q g l =
    let rs = g.K.Keeper.reps l.initial.k in
    (g.K.Keeper.reps l.k ≡ rs) × ((x : ℕ) → 0 < x → x < l.q → rep rs x ≢ rep rs l.p)
