use Rattle.std.proofs.Common.{vec_items, refl}
use Rattle.congruence.proofs.Resting.{lowest_told}
use Rattle.congruence.proofs.Journals.{within}
use Rattle.engines.specs.Content.{pictures_on, entries_on}
use Rattle.engines.proofs.Alikes.{whole_alike, content_alike}
use Rattle.engines.proofs.open.Open.lowest_of.Goals as goal

pub lowest-requires : goal.lowest-requires
lowest-requires g c =
    let s = c.args.self.now in
    within (g.K.Keeper.reps s.congruence.keeper) (pictures_on s) c.requires.whole.working.ready c.args.p c.requires.on

pub returns : goal.returns
returns g c =
    let s = c.args.self.now in
    let es = vec_items s.entries in
    let same = c.lowest.ensures.same in
    let w = c.requires.whole in
    record {
      whole = whole_alike g.K.Keeper g.I.Index s.congruence c.lowest.new.self same es es refl g.K.Keeper.limit w;
      answer = lowest_told (g.K.Keeper.reps s.congruence.keeper) (pictures_on s) (entries_on s) c.args.p c.lowest.result w.working.ready w.closes c.requires.on c.lowest.ensures.answer;
      same = content_alike g.K.Keeper g.I.Index s.congruence c.lowest.new.self same es es refl;
    }
