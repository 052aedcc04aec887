use Rattle.std.proofs.Common.{false, List, vec_items, take, sym, ap, ◌∙◌, ap₂, subst}
use Rattle.theory.specs.Sheet.{Picture, Entry, Ordered}
use Rattle.congruence.specs.Working.{Grows, Any}
use Rattle.congruence.specs.Drawn.{sheet}
use Rattle.engines.specs.Content.{taken}
use Rattle.engines.proofs.Alikes.{Restorable, restorable}
use Rattle.engines.proofs.open.Open.withdraw.Goals as goal

pub restore-requires : goal.restore-requires
restore-requires g c =
    let s = c.args.self.now in
    let r = subst (λ x. Restorable g.K.Keeper x c.args.to) (sym c.explain-steps.ensures.congruence) (restorable g.K.Keeper g.I.Index s.congruence c.args.to c.requires.working c.requires.fresh c.requires.limit s.journal_room) in
    record { counted = r.counted; limit = r.limit; placed = r.placed; fresh = r.fresh; room = r.room }

pub returns : goal.returns
returns g c =
    let s = c.args.self.now in
    let e = c.explain-steps.ensures.congruence in
    let ps = ap (λ x. sheet (vec_items x.pictures)) e in
    let J = vec_items c.restore.new.self.journal in
    let ordered = subst (λ (Q : List Picture). Ordered Q) (sym ps) c.requires.working.ready.ordered in
    record {
      explained = c.explain-steps.ensures.explained;
      working = c.restore.ensures.working ordered;
      idle = c.restore.ensures.idle ordered;
      grows = subst (λ x. Grows (sheet (vec_items x.pictures)) Any (take c.args.to (vec_items x.journal)) J) e (c.restore.ensures.grows ordered);
      content = ap₂ (λ (Q : List Picture) (F : List Entry). record { locked = false; pictures = Q; entries = F }) (c.restore.ensures.sheet ∙ ps) (ap (λ es. taken (vec_items es)) c.explain-steps.ensures.entries);
    }
