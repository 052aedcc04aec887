use Rattle.std.proofs.Common.{◌≡◌, ℕ, ◌≤◌, Ok, Err, Result, List, length, get_or, sym, ap, subst, ◌∙◌, arith}
use Rattle.std.proofs.lemmas.List.{length-map, get_or_default}
use Rattle.std.proofs.lemmas.List.FromFn.{length-range_with_len}
use Rattle.std.specs.List.{range_with_len}
use Rattle.keepers.specs.declared.keeper.KeeperFault.{KeeperFault}
use Rattle.keepers.specs.Counting.{Populated}
use Rattle.congruence.specs.declared.journal.Join.{Join}
use Rattle.congruence.specs.declared.journal.Cause.TheVariants.{Entry}
use Rattle.congruence.specs.Drawn.{drawn, sheet}
use Rattle.congruence.proofs.Replays.{books_none, replay_more}
use Rattle.congruence.proofs.restoring.replay.Goals as goal

-- the join at place i of a journal
abbrev at : List Join → ℕ → Join
at J i = get_or J i (record { left = 0; right = 0; cause = Entry 0 })

-- the keeper has room for all pictures
populated : (cap n : ℕ) (rs : List ℕ) (r : Result Unit KeeperFault) → n ≤ cap → Populated cap n rs r → rs ≡ range_with_len 1 n
populated cap n rs (Ok _) l p = p.1
populated cap n rs (Err e) l p = absurd (omega (arith, l, p.0))

pub loop-join-init : goal.loop-join-init
loop-join-init g c =
    let ps = g.S.Tracked.seen c.args.pictures.now in
    let e = populated g.K.Keeper.limit (length ps) _ c.populate.result c.requires.limit (subst (λ (n : ℕ). Populated g.K.Keeper.limit n (g.K.Keeper.reps c.populate.new.k) c.populate.result) c.count.ensures c.populate.ensures) ∙ ap (range_with_len 1) (sym (length-map ps drawn)) in
    record { counted = ap length e ∙ length-range_with_len 1 (length (sheet ps)); books = books_none (sheet ps) _ e }

pub loop-join-preserved : goal.loop-join-preserved
loop-join-preserved g c =
    let J = c.args.journal.now in
    let i = c.loop-join.join-index in
    let v = c.loop-join.invariant in
    let k = replay_more (sheet (g.S.Tracked.seen c.args.pictures.now)) J (g.K.Keeper.reps c.loop-join.k) i (at J i) v.counted v.books
    c.requires.placed c.requires.fresh c.loop-join-test.true (get_or_default J i _ _ c.loop-join-test.true) (g.K.Keeper.reps c.unite.new.k) c.unite.ensures in
    record { counted = k.0; books = k.1 }
