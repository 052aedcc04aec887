use Rattle.std.proofs.Common.{◌+◌, ◌<◌, ℕ, List, map, length, All, sym, refl, ap, ◌∙◌, subst, arith}
use Rattle.std.proofs.lemmas.List.Elements.{All-get_or}
use Rattle.std.proofs.Math.Seq.{map-set_same}
use Rattle.keepers.specs.Meaning.{rep, Upto}
use Rattle.rows.specs.Row.{cells_of}
use Rattle.rows.specs.declared.row.Row.{Row}
use Rattle.congruence.specs.declared.picture.Picture.{Picture as Held}
use Rattle.congruence.specs.Drawn.{held_at, noting, nothing}
use Rattle.congruence.specs.Working.{Fed}
use Rattle.congruence.proofs.Tiers.{counted_again, sheet_length}
use Rattle.congruence.proofs.Replays.{Renoted, renoted_more}
use Rattle.congruence.proofs.Views.{held_is}
use Rattle.congruence.proofs.restoring.renote.Goals as goal

pub roots-row-requires : goal.roots-row-requires
roots-row-requires g c =
    let l = c.loop-i in
    let first = g.S.Tracked.seen c.args.pictures.now in
    let ps = g.S.Tracked.seen l.pictures in
    let rs = g.K.Keeper.reps l.k in
    let b : l.i < length ps = omega (arith, sheet_length first ps l.invariant.renoted.same, c.count-i-end.ensures) in
    let a = counted_again (g.K.Keeper.reps c.args.k.now) rs first ps c.requires (ap length l.invariant.same) l.invariant.renoted.same in
    let f = All-get_or (Fed (length ps)) ps l.i nothing b a.fed in
    subst (λ (n : ℕ). All (Upto n) (cells_of c.inputs.result)) (sym a.counted) (subst (λ (w : Row 4). All (Upto (length ps)) (cells_of w)) (sym c.inputs.ensures) f)

pub loop-i-preserved : goal.loop-i-preserved
loop-i-preserved g c =
    let l = c.loop-i in
    let first = g.S.Tracked.seen c.args.pictures.now in
    let ps = g.S.Tracked.seen l.pictures in
    let f = rep (g.K.Keeper.reps c.args.k.now) in
    let old = held_at ps l.i in
    let new = noting old c.roots-row.result in
    let e = c.note.ensures.after in
    let b : l.i < length ps = omega (arith, sheet_length first ps l.invariant.renoted.same, c.count-i-end.ensures) in
    let answer = c.roots-row.ensures.answer ∙ (ap (λ (ts : List ℕ). map (rep ts) (cells_of c.inputs.result)) l.invariant.same ∙ ap (λ (w : Row 4). map f (cells_of w)) c.inputs.ensures) in
    record {
      same = c.roots-row.ensures.same ∙ l.invariant.same;
      inputs = ap (map (λ (h : Held). h.inputs)) e ∙ (map-set_same (λ (h : Held). h.inputs) ps l.i new old (ap (λ (h : Held). h.inputs) (held_is ps l.i b)) ∙ l.invariant.inputs);
      frame = c.note.ensures.frame ∙ l.invariant.frame;
      renoted = subst (Renoted f (l.i + 1) first) (sym e) (renoted_more first ps f l.i old new l.invariant.renoted b (held_is ps l.i b) refl answer refl);
    }
