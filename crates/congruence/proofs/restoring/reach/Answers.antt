use Rattle.std.proofs.Common.{◌≡◌, ℕ, ◌≤◌, Ok, Err, Result, List, length, ap, ◌∙◌, arith}
use Rattle.std.proofs.lemmas.List.FromFn.{length-range_with_len}
use Rattle.keepers.specs.declared.keeper.KeeperFault.{KeeperFault}
use Rattle.keepers.specs.Counting.{Populated}
use Rattle.keepers.specs.Reps.{joined_length}
use Rattle.congruence.proofs.restoring.reach.Goals as goal

-- the keeper has room for n pictures
counted : (cap n : ℕ) (rs : List ℕ) (r : Result Unit KeeperFault) → n ≤ cap → Populated cap n rs r → length rs ≡ n
counted cap n rs (Ok _) l p = ap length p.1 ∙ length-range_with_len 1 n
counted cap n rs (Err e) l p = absurd (omega (arith, l, p.0))

pub loop-i-init : goal.loop-i-init
loop-i-init g c = counted g.K.Keeper.limit c.args.n _ c.populate.result c.requires.few c.populate.ensures

pub loop-i-preserved : goal.loop-i-preserved
loop-i-preserved g c = joined_length _ _ _ _ c.join.result c.join.ensures ∙ (ap length c.together.ensures.same ∙ c.loop-i.invariant)
