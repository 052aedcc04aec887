use Rattle.std.proofs.Common.{◌≡◌, ◌-◌, vec_items}
use Rattle.keepers.specs.Meaning.{Upto}
use Rattle.keepers.specs.Links.{rank, root, roots, pictures}
use Rattle.keepers.proofs.links.Links.halve.Given as goal

abbrev pub invariant-loop-x : goal.invariant-loop-x
invariant-loop-x l =
    let ls = vec_items l.self.links in
    let old = vec_items l.initial.self.links in record {
      size : pictures ls ≡ pictures old;
      on : Upto (pictures ls) l.x;
      same : roots (pictures ls) ls ≡ roots (pictures old) old;
      end : root (pictures ls) ls l.x ≡ root (pictures old) old l.p;
    }

abbrev pub decreases-loop-x : goal.decreases-loop-x
decreases-loop-x l = pictures (vec_items l.initial.self.links) - rank (vec_items l.self.links) l.x
