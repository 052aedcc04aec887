use Rattle.std.proofs.Common.{◌≡◌, length, vec_items, vec_capacity}
use Rattle.keepers.specs.Meaning.{class_count}
use Rattle.indexes.specs.Meaning.{held}
use Rattle.congruence.specs.Drawn.{sheet, inputs_held}
use Rattle.congruence.specs.Working.{Holding, Progress, Grows, Any}
use Rattle.congruence.specs.Waiting.{Working}
use Rattle.congruence.proofs.settling.settle.Given as goal

abbrev pub invariant-loop-join : goal.invariant-loop-join
invariant-loop-join g l =
    let rs = g.K.Keeper.reps l.initial.k in
    let seen = g.S.Tracked.seen in
    let ps = seen l.initial.pictures in
    let J = vec_items l.initial.journal in
    let rs' = g.K.Keeper.reps l.k in
    let ps' = seen l.pictures in
    let m' = held (g.I.Index.leads l.index) in
    let J' = vec_items l.journal in
    record {
      holding : Holding rs' ps' m' J';
      progress : Progress rs rs' (length J) (length J');
      space : vec_capacity l.journal ≡ vec_capacity l.initial.journal;
      same : sheet ps' ≡ sheet ps;
      inputs : inputs_held ps' ≡ inputs_held ps;
      frame : g.S.Tracked.frame l.pictures ≡ g.S.Tracked.frame l.initial.pictures;
      works : Working rs ps (held (g.I.Index.leads l.initial.index)) J → Working rs' ps' m' J' × Grows (sheet ps) Any J J';
    }

abbrev pub decreases-loop-join : goal.decreases-loop-join
decreases-loop-join g l = class_count (g.K.Keeper.reps l.k)
