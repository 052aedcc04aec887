use Rattle.std.proofs.Common.{◌≡◌, ℕ, List, length, map, sym, subst, arith}
use Rattle.std.specs.List.{refill}
use Rattle.std.proofs.lemmas.Grind.{common_steps}
use Rattle.keepers.specs.Meaning.{Settled, moved}
use Rattle.keepers.specs.Reps.{settled_map}
use Rattle.small.proofs.SmallKeeper.join.Goals as goal

pub invariant_of-self : goal.invariant_of-self
invariant_of-self c =
    let k = c.find-2.new.self in
    let rs : List ℕ = k.labels.items in
    let ws : List ℕ = c.relabel_row.new.labels in
    let e : refill (length rs) rs ws ≡ map (moved c.in_ok-lost.lost c.in_ok-heir.heir) rs = grind (arith, common_steps) in
    let s = k.settled c.args.p in
    record { settled = subst Settled (sym e) (settled_map rs c.in_ok-lost.lost c.in_ok-heir.heir (grind arith) (grind arith) (grind arith) k.settled) }
