use Rattle.std.proofs.Common.{rules}
use Rattle.keepers.specs.Reps.{settled_push}
use Rattle.small.proofs.SmallKeeper.grow.Goals as goal

pub invariant_of-self : goal.invariant_of-self
invariant_of-self c = search (rules, settled_push)
