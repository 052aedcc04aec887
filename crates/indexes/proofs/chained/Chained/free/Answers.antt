use Rattle.std.proofs.Common.{◌-◌, ◌<◌, map, length, set, vec_items, ap, ◌∙◌, arith}
use Rattle.std.proofs.lemmas.List.{length-map}
use Rattle.rows.specs.Row.{cells_of}
use Rattle.indexes.specs.Meaning.{held, apart}
use Rattle.indexes.specs.Buckets.{lead_in, somes}
use Rattle.indexes.specs.Cells.{located_has}
use Rattle.indexes.specs.Held.{bucket_low, bucket_high}
use Rattle.indexes.specs.Leads.{freed-apart, freed-held}
use Rattle.indexes.proofs.chained.Chained.free.Goals as goal

pub shift-requires-clause-buckets : goal.shift-requires-clause-buckets
shift-requires-clause-buckets c =
    let o = c.args.s.now.op in
    let w = cells_of c.args.s.now.row in
    let e = c.bucket.ensures in
    (omega (arith, e, bucket_high o w), (omega arith, λ z. omega (arith, z, e, bucket_low o w)))

pub shift-requires-clause-once : goal.shift-requires-clause-once
shift-requires-clause-once c =
    let s = c.args.self.now in
    let xs = vec_items s.cells in
    let f = c.args.f in
    let m : f.cell - 1 < length (map lead_in xs) = simp length-map (omega (arith, c.requires.low, c.requires.high)) in
    ap (λ b. apart (somes (set (map lead_in xs) (f.cell - 1) (lead_in b)))) c.spare.ensures ∙ freed-apart (map lead_in xs) (f.cell - 1) m _ _ (located_has xs _ _ _ f c.requires) s.once

pub returns : goal.returns
returns c = λ q v.
    let s = c.args.self.now in
    let xs = vec_items s.cells in
    let f = c.args.f in
    let m : f.cell - 1 < length (map lead_in xs) = simp length-map (omega (arith, c.requires.low, c.requires.high)) in
    ap (λ es. held es q v) c.shift.ensures
    ∙ ap (λ b. held (somes (set (map lead_in xs) (f.cell - 1) (lead_in b))) q v) c.spare.ensures
    ∙ freed-held (map lead_in xs) (f.cell - 1) m _ _ (located_has xs _ _ _ f c.requires) s.once q v
