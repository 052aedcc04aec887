use Rattle.std.proofs.Common.{sym, vec_items, ◌∙◌}
use Rattle.indexes.specs.Cells.{located_held}
use Rattle.indexes.proofs.Long.{none_of_cells}
use Rattle.indexes.proofs.chained.calls.ChainedIndex.query.Goals as goal

pub returns-in_err-new : goal.returns-in_err-new
returns-in_err-new c = c.from_residual.ensures ∙ sym (none_of_cells c.args.op c.args.row.now c.in_err-new.ensures (vec_items c.args.self.now.cells))

pub returns : goal.returns
returns c =
    let s = c.args.self.now in
    let e = c.in_ok-new.ensures in
    let h = located_held (vec_items s.cells) (vec_items s.heads) _ _ c.in_ok-f.f s.once c.in_ok-f.ensures c.index.result.now in
    cc (e.0, e.1, h, c.picture.ensures, c.index.ensures)
