use Rattle.std.proofs.Common.{◌≡◌}
use Rattle.keepers.specs.Meaning.{rep}
use Rattle.congruence.specs.Drawn.{inputs_held}
use Rattle.congruence.proofs.Replays.{Renoted}
use Rattle.congruence.proofs.restoring.renote.Given as goal

abbrev pub invariant-loop-i : goal.invariant-loop-i
invariant-loop-i g l =
    let reps = g.K.Keeper.reps in
    let tracked = g.S.Tracked in
    let first = tracked.seen l.initial.pictures in
    let ps = tracked.seen l.pictures in
    record {
      same : reps l.k ≡ reps l.initial.k;
      inputs : inputs_held ps ≡ inputs_held first;
      frame : tracked.frame l.pictures ≡ tracked.frame l.initial.pictures;
      renoted : Renoted (rep (reps l.initial.k)) l.i first ps;
    }
