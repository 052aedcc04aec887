use Rattle.std.proofs.Common.{vec_items, arith}
use Rattle.keepers.specs.Links.{pictures}
use Rattle.keepers.specs.Roots.{length-roots}
use Rattle.keepers.proofs.links.LinksKeeper.join.Goals as goal

pub returns-then-not-has : goal.returns-then-not-has
returns-then-not-has c =
    elim c.then-not-has.branch [
      | goal.then-not-has-via-then-not-has w ↦ grind (arith, length-roots)
      | goal.then-not-has-via-else-not-has+then-not-has-2 w ↦ grind (arith, length-roots)
    ]

pub returns : goal.returns
returns c =
    let k = c.args.self.now in
    let old = vec_items k.links in
    let l = length-roots (pictures old) old in
    (grind arith, grind arith, c.unite.ensures.did)
