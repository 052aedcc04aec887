use Rattle.std.proofs.Common.{ℕ, List, length, vec_items, sym, ◌∙◌, subst, arith}
use Rattle.std.proofs.lemmas.Bool.{eqb-false}
use Rattle.theory.specs.Sheet.{Picture, Entry}
use Rattle.theory.specs.Reasons.{Fits}
use Rattle.indexes.specs.Meaning.{held}
use Rattle.congruence.specs.Drawn.{sheet, reasons, reason_of}
use Rattle.congruence.specs.Working.{Books, Inward, Grows, Any}
use Rattle.congruence.specs.Waiting.{Working}
use Rattle.congruence.proofs.Journals.{grows_none, grows_join, grows_then, grows_coarser}
use Rattle.congruence.proofs.Tallies.{apart_room, progress_then}
use Rattle.congruence.proofs.Tiers.{joined_on, sheet_length, pair_apart, on_sheet}
use Rattle.congruence.proofs.settling.tie.Goals as goal

pub merge-requires-clause-room : goal.merge-requires-clause-room
merge-requires-clause-room g c =
    let rs = g.K.Keeper.reps c.args.k.now in
    let h = c.requires.holding in
    let a = pair_apart rs (g.S.Tracked.seen c.args.pictures.now) c.args.join h.counted c.requires.on.0 c.requires.on.1 (eqb-false _ _ (sym c.together.ensures.answer ∙ c.if-together.false)) in
    let r = apart_room c.args.join (length (vec_items c.args.journal.now)) rs (g.met.K.Keeper.settled c.args.k.now) a h.booked in
    omega (arith, r, h.counted.counted, h.counted.few, c.requires.room, c.args.journal.now.ok.0)

pub settle-requires-clause-holding : goal.settle-requires-clause-holding
settle-requires-clause-holding g c =
    let k = g.K.Keeper in
    let ps = g.S.Tracked.seen c.args.pictures.now in
    let rs = k.reps c.args.k.now in
    let h = c.requires.holding in
    let a = pair_apart rs ps c.args.join h.counted c.requires.on.0 c.requires.on.1 (eqb-false _ _ (sym c.together.ensures.answer ∙ c.if-together.false)) in
    let o = joined_on rs (k.reps c.together.new.k) (k.reps c.merge.new.k) ps (g.S.Tracked.seen c.merge.new.pictures) (vec_items c.args.journal.now) (vec_items c.merge.new.journal) c.args.join (g.met.K.Keeper.settled c.args.k.now) h.counted h.booked a c.together.ensures.same c.merge.ensures.unites c.merge.ensures.sheet c.merge.ensures.items in
    record {
      counted = o.0;
      inward = subst (λ (n : ℕ). Inward n (held (g.I.Index.leads c.merge.new.index))) (sym (sheet_length ps (g.S.Tracked.seen c.merge.new.pictures) c.merge.ensures.sheet)) (c.merge.ensures.inward _ h.inward);
      booked = o.1;
    }

pub returns-clause-progress : goal.returns-clause-progress
returns-clause-progress g c =
    let k = g.K.Keeper in
    let ps = g.S.Tracked.seen c.args.pictures.now in
    let rs = k.reps c.args.k.now in
    let h = c.requires.holding in
    let a = pair_apart rs ps c.args.join h.counted c.requires.on.0 c.requires.on.1 (eqb-false _ _ (sym c.together.ensures.answer ∙ c.if-together.false)) in
    let o = joined_on rs (k.reps c.together.new.k) (k.reps c.merge.new.k) ps (g.S.Tracked.seen c.merge.new.pictures) (vec_items c.args.journal.now) (vec_items c.merge.new.journal) c.args.join (g.met.K.Keeper.settled c.args.k.now) h.counted h.booked a c.together.ensures.same c.merge.ensures.unites c.merge.ensures.sheet c.merge.ensures.items in
    progress_then _ _ _ _ _ _ o.2 c.settle.ensures.progress

pub returns-clause-grows : goal.returns-clause-grows
returns-clause-grows g c w =
    let rs = g.K.Keeper.reps c.args.k.now in
    let ps = g.S.Tracked.seen c.args.pictures.now in
    let P = sheet ps in
    let J = vec_items c.args.journal.now in
    let J' = vec_items c.merge.new.journal in
    let j = c.args.join in
    let Q : List Entry → Type 0 = λ E. Fits P E (reasons J) (reason_of j) in
    let a = pair_apart rs ps j c.requires.holding.counted c.requires.on.0 c.requires.on.1 (eqb-false _ _ (sym c.together.ensures.answer ∙ c.if-together.false)) in
    let before = subst (λ (ts : List ℕ). Working ts ps (held (g.I.Index.leads c.args.index.now)) J) (sym c.together.ensures.same) w in
    let first : Grows P Q J J' = subst (Grows P Q J) (sym c.merge.ensures.items) (grows_join rs P Q J J j w.books a (λ E q. q) (grows_none P Q J)) in
    grows_then P Q J J' (vec_items c.settle.new.journal) first
    (subst (λ (X : List Picture). Grows X Any J' (vec_items c.settle.new.journal)) c.merge.ensures.sheet (c.settle.ensures.grows (c.merge.ensures.working before)))

pub returns-clause-joined : goal.returns-clause-joined
returns-clause-joined g c w =
    let ps = g.S.Tracked.seen c.args.pictures.now in
    let j = c.args.join in
    let before = subst (λ (ts : List ℕ). Working ts ps (held (g.I.Index.leads c.args.index.now)) (vec_items c.args.journal.now)) (sym c.together.ensures.same) w in
    let mid = c.merge.ensures.working before in
    let end = c.settle.ensures.working mid in
    let Q : List Picture = sheet (g.S.Tracked.seen c.merge.new.pictures) in
    grows_coarser _ _ Q Any _ _ mid.books (subst (λ (X : List Picture). Books (g.K.Keeper.reps c.settle.new.k) X (vec_items c.settle.new.journal)) c.settle.ensures.sheet end.books) (c.settle.ensures.grows mid)
    j.left j.right (on_sheet ps (g.S.Tracked.seen c.merge.new.pictures) c.merge.ensures.sheet j.left c.requires.on.0) (on_sheet ps (g.S.Tracked.seen c.merge.new.pictures) c.merge.ensures.sheet j.right c.requires.on.1) c.merge.ensures.joined
