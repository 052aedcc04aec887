use Rattle.std.proofs.Common.{◌≡◌, None, vec_items}
use Rattle.indexes.specs.Meaning.{held}
use Rattle.indexes.specs.Buckets.{leads_of}
use Rattle.indexes.specs.Maps.{held_absent}
use Rattle.indexes.proofs.Long.{none_of_cells}
use Rattle.indexes.proofs.chained.calls.ChainedIndex.delete.Goals as goal

pub returns-in_default : goal.returns-in_default
returns-in_default c = held_absent _ _ _ (none_of_cells c.args.op c.args.row.now c.in_default.ensures (vec_items c.args.self.now.cells))

pub returns-in_default-place : goal.returns-in_default-place
returns-in_default-place c =
    let e = c.in-Some.ensures in
    let h : held (leads_of c.args.self.now.cells.items) c.args.op c.args.row.now ≡ None = cc (e.0, e.1, c.in_default-place.ensures) in
    held_absent _ _ _ h
