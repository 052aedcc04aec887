use Rattle.std.proofs.Common.{◌≡◌, ℕ, ◌<◌, ◌≤◌, false, length}
use Rattle.keepers.specs.Meaning.{rep}
use Rattle.indexes.specs.Meaning.{held}
use Rattle.congruence.specs.Drawn.{sheet, inputs_held}
use Rattle.congruence.specs.Working.{Ready, Inward}
use Rattle.congruence.specs.Waiting.{Going, waits}
use Rattle.congruence.proofs.settling.sweep.Given as goal

abbrev pub invariant-loop-p : goal.invariant-loop-p
invariant-loop-p g l =
    let rs = g.K.Keeper.reps l.initial.k in
    let seen = g.S.Tracked.seen in
    let ps₀ = seen l.initial.pictures in
    let ps = seen l.pictures in
    let m = held (g.I.Index.leads l.index) in
    record {
      same : g.K.Keeper.reps l.k ≡ rs;
      drawn : sheet ps ≡ sheet ps₀;
      inputs : inputs_held ps ≡ inputs_held ps₀;
      frame : g.S.Tracked.frame l.pictures ≡ g.S.Tracked.frame l.initial.pictures;
      inward : Inward (length ps₀) m;
      works : Ready rs (sheet ps₀) → Going (rep rs) ps₀ (held (g.I.Index.leads l.initial.index)) → Going (rep rs) ps m × ((q : ℕ) → 1 ≤ q → q < l.p → waits ps q ≡ false);
    }
