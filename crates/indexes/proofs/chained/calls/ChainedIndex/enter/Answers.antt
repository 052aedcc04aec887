use Rattle.std.proofs.Common.{◌≡◌, Some, vec_items, sym}
use Rattle.indexes.specs.Meaning.{held}
use Rattle.indexes.specs.Buckets.{leads_of}
use Rattle.indexes.specs.Cells.{located_some}
use Rattle.indexes.specs.Refusing.{taken_held}
use Rattle.indexes.proofs.chained.calls.ChainedIndex.enter.Goals as goal

pub returns-in-Some-clause-answer : goal.returns-in-Some-clause-answer
returns-in-Some-clause-answer c =
    let s = c.args.self.now in
    let e = rw c.in_ok-s.ensures.ok_part at c.new.ensures in
    let p = located_some (vec_items s.cells) (vec_items s.heads) _ _ c.in-Some.f s.once c.in-Some.ensures in
    let h : held (leads_of (vec_items s.cells)) c.args.op c.args.row.now ≡ Some p.0 = cc (e.0, e.1, p.1) in
    sym (taken_held (leads_of (vec_items s.cells)) c.args.op c.args.row.now p.0 e.2 h)
