use Rattle.std.proofs.Common.{◌≡◌, ℕ, ◌+◌, ◌-◌, ◌<◌, ◌≤◌, false, List, length, sym, refl, ap, ◌∙◌, subst, arith}
use Rattle.std.proofs.lemmas.List.{length-map}
use Rattle.theory.specs.Sheet.{Picture}
use Rattle.keepers.specs.Meaning.{rep, Upto}
use Rattle.indexes.specs.Meaning.{held}
use Rattle.congruence.specs.declared.picture.Picture.{Picture as Held}
use Rattle.congruence.specs.Drawn.{drawn, held_at}
use Rattle.congruence.specs.Waiting.{waits, Going, TwinsApart}
use Rattle.congruence.proofs.Sweeps.{turn_none, turn_some}
use Rattle.congruence.proofs.Tiers.{sheet_length}
use Rattle.congruence.proofs.Views.{held_is, kept_set}
use Rattle.congruence.proofs.settling.sweep.Goals as goal

pub look-requires-clause-held : goal.look-requires-clause-held
look-requires-clause-held g c =
    let l = c.loop-p in
    omega (arith, sheet_length (g.S.Tracked.seen c.args.pictures.now) (g.S.Tracked.seen l.pictures) l.invariant.drawn, c.count-p-end.ensures)

pub returns-in-Some-clause-sheet : goal.returns-in-Some-clause-sheet
returns-in-Some-clause-sheet g c =
    let l = c.loop-p in
    let v = l.invariant in
    let first = g.S.Tracked.seen c.args.pictures.now in
    let ps = g.S.Tracked.seen l.pictures in
    let qs = g.S.Tracked.seen c.look.new.pictures in
    let i = l.p - 1 in
    let w = c.look.ensures in
    let b : i < length ps = omega (arith, sheet_length first ps v.drawn, c.count-p-end.ensures) in
    kept_set drawn ps qs i b w.only w.drawn ∙ v.drawn

pub returns-in-Some-clause-inputs : goal.returns-in-Some-clause-inputs
returns-in-Some-clause-inputs g c =
    let l = c.loop-p in
    let v = l.invariant in
    let first = g.S.Tracked.seen c.args.pictures.now in
    let ps = g.S.Tracked.seen l.pictures in
    let qs = g.S.Tracked.seen c.look.new.pictures in
    let i = l.p - 1 in
    let w = c.look.ensures in
    let b : i < length ps = omega (arith, sheet_length first ps v.drawn, c.count-p-end.ensures) in
    kept_set (λ (h : Held). h.inputs) ps qs i b w.only w.inputs ∙ v.inputs

pub returns-in-Some-clause-going : goal.returns-in-Some-clause-going
returns-in-Some-clause-going g c r h =
    let l = c.loop-p in
    let v = l.invariant in
    let first = g.S.Tracked.seen c.args.pictures.now in
    let ps = g.S.Tracked.seen l.pictures in
    let qs = g.S.Tracked.seen c.look.new.pictures in
    let i = l.p - 1 in
    let w = c.look.ensures in
    let b : i < length ps = omega (arith, sheet_length first ps v.drawn, c.count-p-end.ensures) in
    let rs = g.K.Keeper.reps c.args.k.now in
    let m' = held (g.I.Index.leads c.look.new.index) in
    let u : Upto (length first) l.p = (l.auto.p, omega (arith, c.count-p-end.ensures)) in
    let t = turn_some first ps rs (g.K.Keeper.reps l.k) (g.I.Index.leads l.index) l.p (held_at ps i) (held_at qs i) m'
    v.same v.drawn r (v.works r h).0 u (held_is ps i b) w.drawn (g.met.I.Index.once l.index) c.in-Some.q c.in-Some.ensures.looked in
    subst (λ (ws : List Held). Going (rep rs) ws m') (sym w.only) t.1

pub returns-in-Some-clause-swept : goal.returns-in-Some-clause-swept
returns-in-Some-clause-swept g c r h =
    let l = c.loop-p in
    let v = l.invariant in
    let first = g.S.Tracked.seen c.args.pictures.now in
    let ps = g.S.Tracked.seen l.pictures in
    let qs = g.S.Tracked.seen c.look.new.pictures in
    let i = l.p - 1 in
    let w = c.look.ensures in
    let b : i < length ps = omega (arith, sheet_length first ps v.drawn, c.count-p-end.ensures) in
    let rs = g.K.Keeper.reps c.args.k.now in
    let m' = held (g.I.Index.leads c.look.new.index) in
    let u : Upto (length first) l.p = (l.auto.p, omega (arith, c.count-p-end.ensures)) in
    let t = turn_some first ps rs (g.K.Keeper.reps l.k) (g.I.Index.leads l.index) l.p (held_at ps i) (held_at qs i) m'
    v.same v.drawn r (v.works r h).0 u (held_is ps i b) w.drawn (g.met.I.Index.once l.index) c.in-Some.q c.in-Some.ensures.looked in
    (subst (λ (P : List Picture). TwinsApart (rep rs) P l.p c.in-Some.q) (sym (kept_set drawn ps qs i b w.only w.drawn)) t.0, refl)

pub loop-p-preserved : goal.loop-p-preserved
loop-p-preserved g c =
    let l = c.loop-p in
    let v = l.invariant in
    let first = g.S.Tracked.seen c.args.pictures.now in
    let ps = g.S.Tracked.seen l.pictures in
    let qs = g.S.Tracked.seen c.look.new.pictures in
    let i = l.p - 1 in
    let w = c.look.ensures in
    let b : i < length ps = omega (arith, sheet_length first ps v.drawn, c.count-p-end.ensures) in
    let rs = g.K.Keeper.reps c.args.k.now in
    let m' = held (g.I.Index.leads c.look.new.index) in
    let u : Upto (length first) l.p = (l.auto.p, omega (arith, c.count-p-end.ensures)) in
    record {
      same = w.same ∙ v.same;
      drawn = kept_set drawn ps qs i b w.only w.drawn ∙ v.drawn;
      inputs = kept_set (λ (h : Held). h.inputs) ps qs i b w.only w.inputs ∙ v.inputs;
      frame = w.frame ∙ v.frame;
      inward = λ o x q e. let k = w.inward o x q e in (k.0, omega (arith, k.1, ap length v.same, c.requires.counted.counted));
      works = λ r h.
          let t = turn_none first ps rs (g.K.Keeper.reps l.k) (g.I.Index.leads l.index) l.p (held_at ps i) (held_at qs i) m'
          v.same v.drawn r (v.works r h).0 u (held_is ps i b) w.drawn (g.met.I.Index.once l.index) c.in_default.ensures.looked (v.works r h).1 in (
            subst (λ (ws : List Held). Going (rep rs) ws m') (sym w.only) t.0,
            subst (λ (ws : List Held). (q : ℕ) → 1 ≤ q → q < l.p + 1 → waits ws q ≡ false) (sym w.only) (λ q a e. t.1 q a (omega (arith, e))),
          );
    }

-- the last turn
pub returns-in_default-clause-sheet : goal.returns-in_default-clause-sheet
returns-in_default-clause-sheet g c =
    let l = c.loop-p in
    let v = l.invariant in
    let first = g.S.Tracked.seen c.args.pictures.now in
    let ps = g.S.Tracked.seen l.pictures in
    let qs = g.S.Tracked.seen c.look.new.pictures in
    let i = l.p - 1 in
    let w = c.look.ensures in
    let b : i < length ps = omega (arith, sheet_length first ps v.drawn, c.count-p-end.ensures) in
    kept_set drawn ps qs i b w.only w.drawn ∙ v.drawn

pub returns-in_default-clause-inputs : goal.returns-in_default-clause-inputs
returns-in_default-clause-inputs g c =
    let l = c.loop-p in
    let v = l.invariant in
    let first = g.S.Tracked.seen c.args.pictures.now in
    let ps = g.S.Tracked.seen l.pictures in
    let qs = g.S.Tracked.seen c.look.new.pictures in
    let i = l.p - 1 in
    let w = c.look.ensures in
    let b : i < length ps = omega (arith, sheet_length first ps v.drawn, c.count-p-end.ensures) in
    kept_set (λ (h : Held). h.inputs) ps qs i b w.only w.inputs ∙ v.inputs

pub returns-in_default-clause-going : goal.returns-in_default-clause-going
returns-in_default-clause-going g c r h =
    let l = c.loop-p in
    let v = l.invariant in
    let first = g.S.Tracked.seen c.args.pictures.now in
    let ps = g.S.Tracked.seen l.pictures in
    let qs = g.S.Tracked.seen c.look.new.pictures in
    let i = l.p - 1 in
    let w = c.look.ensures in
    let b : i < length ps = omega (arith, sheet_length first ps v.drawn, c.count-p-end.ensures) in
    let rs = g.K.Keeper.reps c.args.k.now in
    let m' = held (g.I.Index.leads c.look.new.index) in
    let u : Upto (length first) l.p = (l.auto.p, omega (arith, c.count-p-end.ensures)) in
    let t = turn_none first ps rs (g.K.Keeper.reps l.k) (g.I.Index.leads l.index) l.p (held_at ps i) (held_at qs i) m'
    v.same v.drawn r (v.works r h).0 u (held_is ps i b) w.drawn (g.met.I.Index.once l.index) c.in_default.ensures.looked (v.works r h).1 in
    subst (λ (ws : List Held). Going (rep rs) ws m') (sym w.only) t.0

pub returns-in_default-clause-swept : goal.returns-in_default-clause-swept
returns-in_default-clause-swept g c r h q o =
    let l = c.loop-p in
    let v = l.invariant in
    let first = g.S.Tracked.seen c.args.pictures.now in
    let ps = g.S.Tracked.seen l.pictures in
    let qs = g.S.Tracked.seen c.look.new.pictures in
    let i = l.p - 1 in
    let w = c.look.ensures in
    let b : i < length ps = omega (arith, sheet_length first ps v.drawn, c.count-p-end.ensures) in
    let rs = g.K.Keeper.reps c.args.k.now in
    let m' = held (g.I.Index.leads c.look.new.index) in
    let u : Upto (length first) l.p = (l.auto.p, omega (arith, c.count-p-end.ensures)) in
    let t = turn_none first ps rs (g.K.Keeper.reps l.k) (g.I.Index.leads l.index) l.p (held_at ps i) (held_at qs i) m'
    v.same v.drawn r (v.works r h).0 u (held_is ps i b) w.drawn (g.met.I.Index.once l.index) c.in_default.ensures.looked (v.works r h).1 in
    let e = kept_set drawn ps qs i b w.only w.drawn ∙ v.drawn in
    subst (λ (ws : List Held). waits ws q ≡ false) (sym w.only) (t.1 q o.0 (omega (arith, o.1, ap length e, length-map first drawn, c.count-p-end.ensures)))
