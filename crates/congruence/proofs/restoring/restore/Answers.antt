use Rattle.std.proofs.Common.{vec_items, refl, sym}
use Rattle.congruence.proofs.Inwards.{empty_inward}
use Rattle.congruence.proofs.Tiers.{restored_counted, restored_booked, restored_working}
use Rattle.congruence.proofs.restoring.restore.Goals as goal

pub settle-requires-clause-holding : goal.settle-requires-clause-holding
settle-requires-clause-holding g c =
    let seen = g.S.Tracked.seen in
    let ps = seen c.args.pictures.now in
    let ws = seen c.renote.new.pictures in
    let rs = g.K.Keeper.reps c.replay.new.k in
    let us = g.K.Keeper.reps c.renote.new.k in
    let es = g.I.Index.leads c.reset.new.self in
    let v = c.replay.ensures in
    let n = c.renote.ensures in
    let ej = sym c.deref.ensures.value in
    record {
      counted = restored_counted rs us ps ps ws ws c.deref.result.now (vec_items c.truncate.new.self) es v.counted v.books refl ej refl n.same n.sheet c.reset.ensures;
      inward = empty_inward _ es c.reset.ensures;
      booked = restored_booked rs us ps ps ws ws c.deref.result.now (vec_items c.truncate.new.self) es v.counted v.books refl ej refl n.same n.sheet c.reset.ensures (g.met.K.Keeper.settled c.replay.new.k);
    }

pub returns-clause-working : goal.returns-clause-working
returns-clause-working g c o =
    let seen = g.S.Tracked.seen in
    let ps = seen c.args.pictures.now in
    let ws = seen c.renote.new.pictures in
    let rs = g.K.Keeper.reps c.replay.new.k in
    let us = g.K.Keeper.reps c.renote.new.k in
    let es = g.I.Index.leads c.reset.new.self in
    let v = c.replay.ensures in
    let n = c.renote.ensures in
    c.settle.ensures.working
    (restored_working rs us ps ps ws ws c.deref.result.now (vec_items c.truncate.new.self) es v.counted v.books refl (sym c.deref.ensures.value) refl n.same n.sheet c.reset.ensures o n.rows n.waits)
