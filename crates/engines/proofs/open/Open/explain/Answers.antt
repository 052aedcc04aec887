use Rattle.std.proofs.Common.{◌≤◌, List, length, ap, refl, subst₂, arith}
use Rattle.congruence.specs.declared.picture.Picture.{Picture as Held}
use Rattle.congruence.specs.declared.journal.Join.{Join}
use Rattle.congruence.specs.Drawn.{sheet, reasons}
use Rattle.reasons.specs.Table.{Explained}
use Rattle.engines.proofs.open.Open.explain.Goals as goal

pub explain-requires : goal.explain-requires
explain-requires g c =
    let w = c.requires.working in
    let few : length c.journal.result.now ≤ 1024 = omega (arith, w.books.few, w.ready.few, ap length c.journal.ensures) in
    record { room = omega (arith, few, c.requires.cells); few = few }

pub returns : goal.returns
returns g c =
    record {
      congruence = refl;
      entries = refl;
      explained = subst₂ (λ (ps : List Held) (js : List Join). Explained (sheet ps) (reasons js) c.args.a c.args.b c.explain.result c.args.table.now c.explain.new.table)
          c.pictures.ensures c.journal.ensures c.explain.ensures.explained;
    }
