use Rattle.std.proofs.Common.{◌+◌, ◌<◌, List, length, sym, ◌∙◌, subst, arith}
use Rattle.indexes.specs.Meaning.{held}
use Rattle.congruence.specs.declared.picture.Picture.{Picture as Held}
use Rattle.congruence.specs.Drawn.{held_at}
use Rattle.congruence.proofs.Sweeps.{Walked, walked_on}
use Rattle.congruence.proofs.Views.{held_is, kept_set}
use Rattle.congruence.proofs.Tiers.{sheet_length}
use Rattle.congruence.proofs.merging.withdraw_all.Goals as goal

pub withdraw-requires : goal.withdraw-requires
withdraw-requires g c =
    let l = c.loop-i in
    omega (arith, sheet_length (g.S.Tracked.seen c.args.pictures.now) (g.S.Tracked.seen l.pictures) l.invariant.walked.same, c.count-i-end.ensures)

pub loop-i-preserved : goal.loop-i-preserved
loop-i-preserved g c =
    let l = c.loop-i in
    let v = l.invariant in
    let seen = g.S.Tracked.seen in
    let first = seen c.args.pictures.now in
    let ps = seen l.pictures in
    let qs = seen c.withdraw.new.pictures in
    let w = c.withdraw.ensures in
    let m₀ = held (g.I.Index.leads c.args.index.now) in
    let m' = held (g.I.Index.leads c.withdraw.new.index) in
    let b : l.i < length ps = omega (arith, sheet_length first ps v.walked.same, c.count-i-end.ensures) in
    record {
      inputs = kept_set (λ (h : Held). h.inputs) ps qs l.i b w.only w.inputs ∙ v.inputs;
      frame = w.frame ∙ v.frame;
      walked = subst (λ (ws : List Held). Walked c.args.lost c.args.heir (l.i + 1) first m₀ ws m') (sym w.only)
          (walked_on c.args.lost c.args.heir l.i first ps m₀ (held (g.I.Index.leads l.index)) m' (held_at ps l.i) (held_at qs l.i) v.walked b (held_is ps l.i b) w.withdrawn);
    }
