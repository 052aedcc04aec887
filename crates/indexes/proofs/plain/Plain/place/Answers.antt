use Rattle.std.proofs.Common.{◌∙◌, vec_items, rules}
use Rattle.std.proofs.lemmas.Iterator.{YieldsList-from_slice, IsFirst-from_position}
use Rattle.rows.specs.Row.{cells_of}
use Rattle.indexes.proofs.Placing.{Has, HasNot, placed}
use Rattle.indexes.proofs.plain.Plain.place.Goals as goal

pub returns : goal.returns
returns c =
    let o = c.args.s.now.op in
    let w = cells_of c.args.s.now.row in
    let xs = vec_items c.args.self.now.records in
    placed o w xs c.position.result (IsFirst-from_position _ _ c.position.result (Has o w) (HasNot o w) c.position.ensures.ran (YieldsList-from_slice xs (c.iter.ensures.rest ∙ c.deref.ensures.value)) (λ x q k. search rules) (λ x q k. search rules))
