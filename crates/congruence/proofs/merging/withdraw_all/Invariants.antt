use Rattle.std.proofs.Common.{◌≡◌}
use Rattle.indexes.specs.Meaning.{held}
use Rattle.congruence.specs.Drawn.{inputs_held}
use Rattle.congruence.proofs.Sweeps.{Walked}
use Rattle.congruence.proofs.merging.withdraw_all.Given as goal

abbrev pub invariant-loop-i : goal.invariant-loop-i
invariant-loop-i g l =
    let found = g.I.Index in
    let tracked = g.S.Tracked in
    let first = tracked.seen l.initial.pictures in
    let ps = tracked.seen l.pictures in
    record {
      inputs : inputs_held ps ≡ inputs_held first;
      frame : tracked.frame l.pictures ≡ tracked.frame l.initial.pictures;
      walked : Walked l.lost l.heir l.i first (held (found.leads l.initial.index)) ps (held (found.leads l.index));
    }
