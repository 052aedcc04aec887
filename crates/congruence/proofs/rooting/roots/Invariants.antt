use Rattle.std.proofs.Common.{◌≡◌, map, take}
use Rattle.keepers.specs.Meaning.{rep}
use Rattle.rows.specs.Row.{cells_of}
use Rattle.congruence.proofs.rooting.roots.Given as goal

abbrev pub invariant-loop-x : goal.invariant-loop-x
invariant-loop-x g l =
    let rs = g.K.Keeper.reps l.initial.k in
    (g.K.Keeper.reps l.k ≡ rs) × (cells_of l.roots ≡ map (rep rs) (take l.x-index l.x-items))
