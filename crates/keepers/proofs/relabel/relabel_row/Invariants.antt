use Rattle.std.proofs.Common.{◌≡◌, ◌++◌, map, take, drop}
use Rattle.keepers.specs.Meaning.{moved}
use Rattle.keepers.proofs.relabel.relabel_row.Given as goal

abbrev pub invariant-loop-x : goal.invariant-loop-x
invariant-loop-x l = l.x-items ≡ map (moved l.lost l.heir) (take l.x-index l.initial.x-items) ++ drop l.x-index l.initial.x-items
