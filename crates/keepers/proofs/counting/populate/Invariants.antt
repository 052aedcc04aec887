use Rattle.std.proofs.Common.{◌≡◌, ◌≤◌}
use Rattle.std.specs.List.{range_with_len}
use Rattle.keepers.proofs.counting.populate.Given as goal

abbrev pub invariant-loop : goal.invariant-loop
invariant-loop g l = (g.K.Keeper.reps l.k ≡ range_with_len 1 l.counter) × (l.counter ≤ g.K.Keeper.limit)
