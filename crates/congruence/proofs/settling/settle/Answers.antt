use Rattle.std.proofs.Common.{ℕ, List, length, vec_items, sym, refl, ap, ◌∙◌, subst, arith}
use Rattle.theory.specs.Sheet.{Picture}
use Rattle.keepers.specs.Meaning.{rep, Unites}
use Rattle.indexes.specs.Meaning.{held}
use Rattle.congruence.specs.Drawn.{sheet}
use Rattle.congruence.specs.Working.{Ready, Books, Inward, Booked, Progress}
use Rattle.congruence.specs.Waiting.{TwinsApart}
use Rattle.congruence.proofs.Journals.{grows_twins}
use Rattle.congruence.proofs.Tallies.{apart_room, joined_progress, progress_then}
use Rattle.congruence.proofs.Tiers.{counted_again, sheet_length, joined_on, working_again}
use Rattle.congruence.proofs.settling.settle.Goals as goal

pub sweep-requires : goal.sweep-requires
sweep-requires g c = let h = c.loop-join.invariant.holding in record { counted = h.counted; inward = h.inward }

pub merge-requires-clause-room : goal.merge-requires-clause-room
merge-requires-clause-room g c =
    let l = c.loop-join in
    let h = l.invariant.holding in
    let r = apart_room c.in-Some.join (length (vec_items l.journal)) (g.K.Keeper.reps l.k) (g.met.K.Keeper.settled l.k) c.in-Some.ensures.found h.booked in
    omega (arith, r, h.counted.counted, h.counted.few, c.requires.room, l.invariant.space, l.journal.ok.0)

pub loop-join-smaller : goal.loop-join-smaller
loop-join-smaller g c =
    let k = g.K.Keeper in
    let l = c.loop-join in
    let j = c.in-Some.join in
    let u = subst (λ (ts : List ℕ). Unites j.left j.right ts (k.reps c.merge.new.k)) c.sweep.ensures.same c.merge.ensures.unites in
    let p = joined_progress j 0 (k.reps l.k) (k.reps c.merge.new.k) (g.met.K.Keeper.settled l.k) c.in-Some.ensures.found u in
    omega (arith, p.balance)

pub loop-join-preserved : goal.loop-join-preserved
loop-join-preserved g c =
    let k = g.K.Keeper in
    let l = c.loop-join in
    let v = l.invariant in
    let j = c.in-Some.join in
    let P = sheet (g.S.Tracked.seen c.args.pictures.now) in
    let J = vec_items l.journal in
    let J' = vec_items c.merge.new.journal in
    let rs = k.reps l.k in
    let ps = g.S.Tracked.seen l.pictures in
    let m = held (g.I.Index.leads l.index) in
    let ep = c.merge.ensures.sheet ∙ c.sweep.ensures.sheet in
    let o = joined_on rs (k.reps c.sweep.new.k) (k.reps c.merge.new.k) ps (g.S.Tracked.seen c.merge.new.pictures) J J' j (g.met.K.Keeper.settled l.k) v.holding.counted v.holding.booked c.in-Some.ensures.found c.sweep.ensures.same c.merge.ensures.unites ep c.merge.ensures.items in
    record {
      holding = record {
        counted = o.0;
        inward = subst (λ (n : ℕ). Inward n (held (g.I.Index.leads c.merge.new.index))) (sym (sheet_length ps (g.S.Tracked.seen c.merge.new.pictures) ep)) (c.merge.ensures.inward _ c.sweep.ensures.inward);
        booked = o.1;
      };
      progress = progress_then _ _ _ _ _ _ v.progress o.2;
      space = c.merge.ensures.space ∙ v.space;
      same = ep ∙ v.same;
      inputs = c.merge.ensures.inputs ∙ (c.sweep.ensures.inputs ∙ v.inputs);
      frame = c.merge.ensures.frame ∙ (c.sweep.ensures.frame ∙ v.frame);
      works = λ w.
          let h = v.works w in
          let r = h.0.ready in
          let go = c.sweep.ensures.going r h.0.going in
          let t = c.in-Some.ensures.swept r h.0.going in (
            c.merge.ensures.working (working_again rs (k.reps c.sweep.new.k) ps (g.S.Tracked.seen c.sweep.new.pictures) m (held (g.I.Index.leads c.sweep.new.index)) J J h.0 c.sweep.ensures.same c.sweep.ensures.sheet refl go),
            grows_twins rs P (vec_items c.args.journal.now) J J' j (subst (Ready rs) v.same r) (subst (λ (Q : List Picture). Books rs Q J) v.same h.0.books)
                (subst (λ (Q : List Picture). TwinsApart (rep rs) Q j.left j.right) (c.sweep.ensures.sheet ∙ v.same) t.0) t.1 h.1 c.merge.ensures.items,
          );
    }

pub returns : goal.returns
returns g c =
    let k = g.K.Keeper in
    let l = c.loop-join in
    let v = l.invariant in
    let e = c.sweep.ensures.sheet in
    let rs = k.reps l.k in
    let J = vec_items l.journal in
    record {
      holding = record {
        counted = counted_again rs (k.reps c.sweep.new.k) (g.S.Tracked.seen l.pictures) (g.S.Tracked.seen c.sweep.new.pictures) v.holding.counted (ap length c.sweep.ensures.same) e;
        inward = subst (λ (n : ℕ). Inward n (held (g.I.Index.leads c.sweep.new.index))) (sym (sheet_length (g.S.Tracked.seen l.pictures) (g.S.Tracked.seen c.sweep.new.pictures) e)) c.sweep.ensures.inward;
        booked = subst (λ (ts : List ℕ). Booked ts (length J)) (sym c.sweep.ensures.same) v.holding.booked;
      };
      progress = subst (λ (ts : List ℕ). Progress (k.reps c.args.k.now) ts (length (vec_items c.args.journal.now)) (length J)) (sym c.sweep.ensures.same) v.progress;
      space = v.space;
      sheet = e ∙ v.same;
      inputs = c.sweep.ensures.inputs ∙ v.inputs;
      frame = c.sweep.ensures.frame ∙ v.frame;
      working = λ w.
          let h = (v.works w).0 in
          working_again rs (k.reps c.sweep.new.k) (g.S.Tracked.seen l.pictures) (g.S.Tracked.seen c.sweep.new.pictures) (held (g.I.Index.leads l.index)) (held (g.I.Index.leads c.sweep.new.index)) J J h c.sweep.ensures.same e refl (c.sweep.ensures.going h.ready h.going);
      idle = λ w. let h = (v.works w).0 in c.in_default.ensures.swept h.ready h.going;
      grows = λ w. (v.works w).1;
    }
