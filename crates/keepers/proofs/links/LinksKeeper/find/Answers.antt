use Rattle.std.proofs.Common.{arith}
use Rattle.keepers.specs.Roots.{length-roots, rep_roots}
use Rattle.keepers.proofs.links.LinksKeeper.find.Goals as goal

pub returns-then-not-has-clause-answer : goal.returns-then-not-has-clause-answer
returns-then-not-has-clause-answer c = grind (arith, length-roots)

pub returns-clause-answer : goal.returns-clause-answer
returns-clause-answer c = grind (arith, length-roots, rep_roots)
