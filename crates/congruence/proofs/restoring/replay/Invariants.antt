use Rattle.std.proofs.Common.{◌≡◌, length, take}
use Rattle.congruence.specs.Drawn.{sheet}
use Rattle.congruence.specs.Working.{Books}
use Rattle.congruence.proofs.restoring.replay.Given as goal

abbrev pub invariant-loop-join : goal.invariant-loop-join
invariant-loop-join g l =
    let rs = g.K.Keeper.reps l.k in
    let P = sheet (g.S.Tracked.seen l.pictures) in
    record {
      counted : length rs ≡ length P;
      books : Books rs P (take l.join-index l.journal);
    }
