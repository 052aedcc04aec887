use Rattle.std.proofs.Common.{vec_items, refl}
use Rattle.std.proofs.lemmas.List.Elements.{All-weaker}
use Rattle.theory.specs.Sheet.{On}
use Rattle.keepers.specs.Meaning.{rep, Within}
use Rattle.rows.specs.Row.{cells_of}
use Rattle.indexes.specs.Meaning.{held}
use Rattle.congruence.proofs.Journals.{within}
use Rattle.engines.specs.Content.{pictures_on, entries_on}
use Rattle.engines.proofs.Alikes.{whole_alike, content_alike}
use Rattle.engines.proofs.Values.{bearer_found}
use Rattle.engines.proofs.open.Open.bearer.Goals as goal

pub bearer-requires : goal.bearer-requires
bearer-requires g c =
    let s = c.args.self.now in
    let rs = g.K.Keeper.reps s.congruence.keeper in
    All-weaker (On (pictures_on s)) (Within rs) (within rs (pictures_on s) c.requires.whole.working.ready) (cells_of c.args.row.now) c.requires.on

pub returns : goal.returns
returns g c =
    let s = c.args.self.now in
    let w = c.requires.whole in
    let es = vec_items s.entries in
    let same = c.bearer.ensures.same in
    record {
      whole = whole_alike g.K.Keeper g.I.Index s.congruence c.bearer.new.self same es es refl g.K.Keeper.limit w;
      answer = bearer_found (pictures_on s) (entries_on s) (rep (g.K.Keeper.reps s.congruence.keeper)) w.closes (held (g.I.Index.leads s.congruence.index)) w.exact w.working.ready.ordered c.args.op (cells_of c.args.row.now) _ c.requires.on
          refl c.bearer.result c.bearer.ensures.answer;
      same = content_alike g.K.Keeper g.I.Index s.congruence c.bearer.new.self same es es refl;
    }
