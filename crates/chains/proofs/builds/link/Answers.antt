use Rattle.std.proofs.Common.{◌-◌, length, set, sym, ap, ◌∙◌}
use Rattle.chains.proofs.Relinked.{cell_is, at_cell, not_cell}
use Rattle.chains.proofs.builds.link.Goals as goal

pub returns-then-has : goal.returns-then-has
returns-then-has g c =
    let L = g.R.Linked in
    let xs = c.args.cells.now in
    let k = c.args.cell in
    let p = cell_is (length xs) k (sym c.has.ensures ∙ c.if-has.true) in
    ap (set xs (k - 1)) c.lead.ensures ∙ sym (at_cell L.led xs k c.args.next c.index-cells-cell.result p.0 p.1)

pub returns-else-has : goal.returns-else-has
returns-else-has g c = sym (not_cell g.R.Linked.led c.args.cells.now c.args.cell c.args.next (sym c.has.ensures ∙ c.if-has.false))
