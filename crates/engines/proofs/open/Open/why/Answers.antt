use Rattle.std.proofs.Common.{◌≡◌, vec_items, sym, refl, ◌∙◌, inl, inr, ap, arith}
use Rattle.std.proofs.lemmas.Bool.{eqb-true, eqb-false}
use Rattle.theory.specs.Sheet.{On}
use Rattle.keepers.specs.Meaning.{rep}
use Rattle.congruence.proofs.Journals.{within}
use Rattle.engines.specs.Content.{pictures_on, entries_on, content}
use Rattle.engines.proofs.Alikes.{works_alike, explained_alike, alike_is, whole_alike, content_alike}
use Rattle.engines.proofs.Stopping.{why_answers}
use Rattle.engines.proofs.open.Open.why.Goals as goal

pub together-requires : goal.together-requires
together-requires g c =
    let s = c.args.self.now in
    let both = c.in_ok-check_pair.ensures in
    let en = c.picture_count.ensures in
    let on = within (g.K.Keeper.reps s.congruence.keeper) (pictures_on s) c.requires.working.ready in
    (on c.args.a (both.0.0, omega (arith, both.0.1, en)), on c.args.b (both.1.0, omega (arith, both.1.1, en)))

pub returns-then-not-together : goal.returns-then-not-together
returns-then-not-together g c =
    let s = c.args.self.now in
    let both = c.in_ok-check_pair.ensures in
    let en = c.picture_count.ensures in
    let oa : On (pictures_on s) c.args.a = (both.0.0, omega (arith, both.0.1, en)) in
    let ob : On (pictures_on s) c.args.b = (both.1.0, omega (arith, both.1.1, en)) in
    let es = vec_items s.entries in
    let same = c.together.ensures.same in
    let apart = eqb-false _ _ (sym c.together.ensures.answer ∙ c.if-not-together.true) in
    record {
      whole = whole_alike g.K.Keeper g.I.Index s.congruence c.together.new.self same es es refl g.K.Keeper.limit c.requires;
      answer = inr ((λ h. omega (arith, h, c.if-table-lt1024.false)), inr ((λ k. k (oa, ob)), inl ((λ k. apart ((c.requires.closes c.args.a c.args.b oa ob).1 k)), refl)));
      same = content_alike g.K.Keeper g.I.Index s.congruence c.together.new.self same es es refl;
      table = refl;
    }

pub explain-requires : goal.explain-requires
explain-requires g c =
    record {
      working = works_alike g.K.Keeper g.I.Index c.args.self.now.congruence c.together.new.self c.together.ensures.same c.requires.working;
      cells = c.if-table-lt1024.false;
    }

pub returns : goal.returns
returns g c =
    let s = c.args.self.now in
    let a = c.args.a in
    let b = c.args.b in
    let rs = g.K.Keeper.reps s.congruence.keeper in
    let n = c.explain.result in
    let t = c.args.table.now in
    let t' = c.explain.new.table in
    let both = c.in_ok-check_pair.ensures in
    let en = c.picture_count.ensures in
    let oa : On (pictures_on s) a = (both.0.0, omega (arith, both.0.1, en)) in
    let ob : On (pictures_on s) b = (both.1.0, omega (arith, both.1.1, en)) in
    let one : rep rs a ≡ rep rs b = eqb-true _ _ (sym c.together.ensures.answer ∙ c.if-not-together.false) in
    let es = vec_items s.entries in
    let same = c.together.ensures.same in
    let ex = explained_alike g.K.Keeper g.I.Index s.congruence c.together.new.self same a b n t t' c.explain.ensures.explained in
    let written = ex (entries_on s) (c.requires.derived, c.requires.working.books.tracks.told a b oa ob one) in
    let o = c.explain.new.self in
    let alike = alike_is g.K.Keeper s.congruence c.together.new.self o.congruence same c.explain.ensures.congruence in
    record {
      whole = whole_alike g.K.Keeper g.I.Index s.congruence o.congruence alike es (vec_items o.entries) (ap vec_items c.explain.ensures.entries) g.K.Keeper.limit c.requires;
      answer = why_answers g.K.Keeper.limit (content s) a b n t t' c.if-table-lt1024.false oa ob ((c.requires.closes a b oa ob).0 one) written;
      same = content_alike g.K.Keeper g.I.Index s.congruence o.congruence alike es (vec_items o.entries) (ap vec_items c.explain.ensures.entries);
      table = written;
    }
