use Rattle.std.proofs.Common.{vec_items, arith}
use Rattle.keepers.specs.Links.{pictures}
use Rattle.keepers.specs.Roots.{length-roots}
use Rattle.keepers.specs.Linking.{pushed_roots, pushed_table}
use Rattle.keepers.proofs.links.LinksKeeper.grow.Goals as goal

pub returns-then-count-eq1024 : goal.returns-then-count-eq1024
returns-then-count-eq1024 c = grind (arith, length-roots)

pub invariant_of-self : goal.invariant_of-self
invariant_of-self c =
    let k = c.args.self.now in
    record { room = omega arith; few = omega arith; table = pushed_table (vec_items k.links) _ _ k.table (omega arith) c.push_reserved.ensures.items }

pub returns : goal.returns
returns c =
    let k = c.args.self.now in
    let l = length-roots (pictures (vec_items k.links)) (vec_items k.links) in
    let r = pushed_roots (vec_items k.links) _ _ k.table (omega arith) c.push_reserved.ensures.items in
    grind arith
