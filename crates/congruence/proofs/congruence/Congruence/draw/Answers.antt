use Rattle.std.proofs.Common.{◌≡◌, ℕ, List, [], ◌∷◌, ◌++◌, true, length, vec_items, sym, refl, ap, ◌∙◌, subst, arith}
use Rattle.std.proofs.lemmas.List.{length_push}
use Rattle.indexes.specs.Meaning.{held}
use Rattle.theory.specs.Sheet.{Picture}
use Rattle.congruence.specs.declared.picture.Picture.{Picture as Held}
use Rattle.congruence.specs.Working.{Counted, Grows, Any}
use Rattle.congruence.proofs.Growing.{drawn_working}
use Rattle.congruence.proofs.Tallies.{grown_booked}
use Rattle.congruence.proofs.Tiers.{grown_counted, grown_inward}
use Rattle.congruence.proofs.congruence.Congruence.draw.Goals as goal

pub settle-requires : goal.settle-requires
settle-requires g c =
    let s = c.args.self.now in
    let rs = g.K.Keeper.reps s.keeper in
    let us = g.K.Keeper.reps c.roots-row.new.k in
    let ps = vec_items s.pictures in
    let h : Held = record { op = c.args.op; inputs = c.args.inputs; row = c.roots-row.result; waits = true } in
    let n : ℕ = c.in_ok-number.number in
    let e = c.roots-row.ensures.same ∙ c.in_ok-number.ensures.2 in
    let pushed : vec_items c.push_reserved.new.self ≡ ps ++ h ∷ [] = c.push_reserved.ensures.items in
    record {
      holding = record {
        counted = subst (Counted us) (sym pushed) (grown_counted rs us ps h n c.requires.holds.holding.counted c.requires.few e c.requires.fed);
        inward = grown_inward (length ps) (length (vec_items c.push_reserved.new.self)) (held (g.I.Index.leads s.index)) (omega (arith, ap length pushed, length_push ps h)) c.requires.holds.holding.inward;
        booked = grown_booked rs us n (length (vec_items s.journal)) e c.requires.holds.holding.booked;
      };
      room = c.requires.holds.room;
    }

pub returns-clause-working : goal.returns-clause-working
returns-clause-working g c w =
    let s = c.args.self.now in
    let h : Held = record { op = c.args.op; inputs = c.args.inputs; row = c.roots-row.result; waits = true } in
    let e = c.in_ok-number.ensures in
    c.settle.ensures.working (drawn_working (g.K.Keeper.reps s.keeper) (g.K.Keeper.reps c.grow.new.self) (g.K.Keeper.reps c.roots-row.new.k) (vec_items s.pictures) (vec_items c.push_reserved.new.self) h (held (g.I.Index.leads s.index)) (vec_items s.journal) c.in_ok-number.number
    w (g.met.K.Keeper.settled s.keeper) c.requires.few e.1 e.2 c.requires.fed c.roots-row.ensures.answer refl c.push_reserved.ensures.items c.roots-row.ensures.same)

pub returns-clause-idle : goal.returns-clause-idle
returns-clause-idle g c w idle =
    let s = c.args.self.now in
    let h : Held = record { op = c.args.op; inputs = c.args.inputs; row = c.roots-row.result; waits = true } in
    let e = c.in_ok-number.ensures in
    c.settle.ensures.idle (drawn_working (g.K.Keeper.reps s.keeper) (g.K.Keeper.reps c.grow.new.self) (g.K.Keeper.reps c.roots-row.new.k) (vec_items s.pictures) (vec_items c.push_reserved.new.self) h (held (g.I.Index.leads s.index)) (vec_items s.journal) c.in_ok-number.number
    w (g.met.K.Keeper.settled s.keeper) c.requires.few e.1 e.2 c.requires.fed c.roots-row.ensures.answer refl c.push_reserved.ensures.items c.roots-row.ensures.same)

pub returns-clause-grows : goal.returns-clause-grows
returns-clause-grows g c w =
    let s = c.args.self.now in
    let h : Held = record { op = c.args.op; inputs = c.args.inputs; row = c.roots-row.result; waits = true } in
    let e = c.in_ok-number.ensures in
    subst (λ (P : List Picture). Grows P Any (vec_items s.journal) (vec_items c.settle.new.self.journal)) (sym c.settle.ensures.sheet)
    (c.settle.ensures.grows (drawn_working (g.K.Keeper.reps s.keeper) (g.K.Keeper.reps c.grow.new.self) (g.K.Keeper.reps c.roots-row.new.k) (vec_items s.pictures) (vec_items c.push_reserved.new.self) h (held (g.I.Index.leads s.index)) (vec_items s.journal) c.in_ok-number.number
    w (g.met.K.Keeper.settled s.keeper) c.requires.few e.1 e.2 c.requires.fed c.roots-row.ensures.answer refl c.push_reserved.ensures.items c.roots-row.ensures.same))
