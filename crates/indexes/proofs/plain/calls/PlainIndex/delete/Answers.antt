use Rattle.std.proofs.Common.{◌≡◌, None, map, vec_items, ap, ◌∙◌}
use Rattle.indexes.specs.Meaning.{held, apart}
use Rattle.indexes.specs.Records.{lead_of}
use Rattle.indexes.specs.Maps.{held_less, apart_less, held_absent}
use Rattle.indexes.proofs.Long.{none_of_records}
use Rattle.indexes.proofs.Removing.{map_removed}
use Rattle.indexes.proofs.plain.calls.PlainIndex.delete.Goals as goal

pub invariant_of-self-clause-once : goal.invariant_of-self-clause-once
invariant_of-self-clause-once c =
    let xs = vec_items c.args.self.now.records in
    ap (λ es. apart (map lead_of es)) c.remove.ensures.items ∙ ap apart (map_removed lead_of xs c.in-Some-place.i)
    ∙ apart_less (map lead_of xs) _ _ _ c.in-Some-place.ensures (lead_of c.remove.result) c.args.self.now.once

pub returns-in_default : goal.returns-in_default
returns-in_default c = held_absent _ _ _ (none_of_records c.args.op c.args.row.now c.in_default.ensures (vec_items c.args.self.now.records))

pub returns-in_default-place : goal.returns-in_default-place
returns-in_default-place c =
    let e = c.in-Some.ensures in
    let h : held (map lead_of c.args.self.now.records.items) c.args.op c.args.row.now ≡ None = cc (e.0, e.1, c.in_default-place.ensures) in
    held_absent _ _ _ h

pub returns-in-Some-place : goal.returns-in-Some-place
returns-in-Some-place c q v =
    let xs = vec_items c.args.self.now.records in
    let e = ap (map lead_of) c.remove.ensures.items ∙ map_removed lead_of xs c.in-Some-place.i in
    let h = ap (λ es. held es q v) e ∙ held_less (map lead_of xs) _ _ _ c.in-Some-place.ensures (lead_of c.remove.result) c.args.self.now.once q v in
    cc (c.in-Some.ensures.0, c.in-Some.ensures.1, h)
