use Rattle.std.proofs.Common.{◌≡◌}
use Rattle.engines.specs.Breaking.{Unbroken}
use Rattle.engines.proofs.open.breaking.first_broken.Given as goal

abbrev pub invariant-loop-i : goal.invariant-loop-i
invariant-loop-i g l =
    let rs = g.K.Keeper.reps l.initial.k in
    (g.K.Keeper.reps l.k ≡ rs) × Unbroken rs l.entries l.i
