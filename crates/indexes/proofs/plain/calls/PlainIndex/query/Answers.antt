use Rattle.std.proofs.Common.{◌≡◌, ◌<◌, map, length, get_or, Some, vec_items, sym, ap, ◌∙◌, arith}
use Rattle.std.proofs.lemmas.List.{length-map, get_or-map}
use Rattle.indexes.specs.Records.{lead_of}
use Rattle.indexes.specs.Maps.{held_at}
use Rattle.indexes.proofs.Long.{none_of_records}
use Rattle.indexes.proofs.plain.calls.PlainIndex.query.Goals as goal

pub returns-in_err-new : goal.returns-in_err-new
returns-in_err-new c = c.from_residual.ensures ∙ sym (none_of_records c.args.op c.args.row.now c.in_err-new.ensures (vec_items c.args.self.now.records))

pub returns : goal.returns
returns c =
    let xs = vec_items c.args.self.now.records in
    let i = c.in_ok-i.i in
    let r = c.index.result.now in
    let s = c.in_ok-i.ensures in
    let l : i < length xs = omega (arith, s.within, length-map xs lead_of) in
    let g : get_or (map lead_of xs) i (lead_of r) ≡ lead_of r = get_or-map lead_of xs i r (lead_of r) l ∙ ap lead_of (sym c.index.ensures) in
    let h = held_at (map lead_of xs) _ _ i s (lead_of r) ∙ ap (λ x. Some x.picture) g in
    let e = c.in_ok-new.ensures in
    cc (e.0, e.1, h, c.picture.ensures)
