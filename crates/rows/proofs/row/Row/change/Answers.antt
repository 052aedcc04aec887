use Rattle.std.proofs.Common.{refl, sym, arith, length-take-le}
use Rattle.std.proofs.lemmas.List.{take_at}
use Rattle.rows.proofs.row.Row.change.Goals as goal

pub returns : goal.returns
returns g c =
    let w = c.args.self.now in
    record {
      shown = _;
      shows = refl;
      left = _;
      met = c.f.ensures;
      leaves = sym (take_at _ _ w.len (omega (arith, c.f.auto.arg2, length-take-le w.len w.cells (omega arith))));
    }
