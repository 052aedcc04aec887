use Rattle.std.proofs.Common.{refl, vec_items, arith}
use Rattle.theory.specs.Sheet.{On}
use Rattle.keepers.specs.Meaning.{rep}
use Rattle.congruence.proofs.Journals.{within}
use Rattle.engines.specs.Content.{pictures_on, content}
use Rattle.engines.proofs.Alikes.{whole_alike, content_alike}
use Rattle.engines.proofs.Stopping.{must_answers}
use Rattle.engines.proofs.open.Open.must.Goals as goal

pub together-requires : goal.together-requires
together-requires g c =
    let s = c.args.self.now in
    let both = c.in_ok-check_pair.ensures in
    let en = c.picture_count.ensures in
    let on = within (g.K.Keeper.reps s.congruence.keeper) (pictures_on s) c.requires.working.ready in
    (on c.args.a (both.0.0, omega (arith, both.0.1, en)), on c.args.b (both.1.0, omega (arith, both.1.1, en)))

pub returns : goal.returns
returns g c =
    let s = c.args.self.now in
    let en = c.picture_count.ensures in
    let both = c.in_ok-check_pair.ensures in
    let oa : On (pictures_on s) c.args.a = (both.0.0, omega (arith, both.0.1, en)) in
    let ob : On (pictures_on s) c.args.b = (both.1.0, omega (arith, both.1.1, en)) in
    let es = vec_items s.entries in
    let same = c.together.ensures.same in
    record {
      whole = whole_alike g.K.Keeper g.I.Index s.congruence c.together.new.self same es es refl g.K.Keeper.limit c.requires;
      answer = must_answers g.K.Keeper.limit (content s) (rep (g.K.Keeper.reps s.congruence.keeper)) c.args.a c.args.b c.together.result c.requires.closes oa ob c.together.ensures.answer;
      same = content_alike g.K.Keeper g.I.Index s.congruence c.together.new.self same es es refl;
      alike = same;
    }
