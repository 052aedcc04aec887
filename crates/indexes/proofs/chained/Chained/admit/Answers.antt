use Rattle.std.proofs.Common.{◌≡◌, ◌≢◌, ℕ, ◌-◌, ◌<◌, map, length, get_or, set, Some, vec_items, sym, ap, ◌∙◌, subst, arith}
use Rattle.std.specs.Prelude.{slice_index}
use Rattle.std.proofs.lemmas.List.{get_or_read, length-map}
use Rattle.rows.specs.Row.{cells_of}
use Rattle.indexes.specs.declared.chained.Chained.{Chained}
use Rattle.indexes.specs.Meaning.{held, apart}
use Rattle.indexes.specs.Buckets.{link_of, lead_in, somes, On}
use Rattle.indexes.specs.Held.{bucket_low, bucket_high}
use Rattle.indexes.specs.Leads.{used-apart, used-held}
use Rattle.indexes.specs.Spares.{First, first_free}
use Rattle.indexes.proofs.chained.Chained.admit.Goals as goal

-- the first free cell
first : (s : Chained) (h : ℕ) → h ≡ get_or (vec_items s.heads) 0 h → slice_index (vec_items s.heads) 0 ≢ 0 → (h ≡ slice_index (vec_items s.heads) 0) × First (vec_items s.cells) h
first s h e n =
    let hd = get_or_read (vec_items s.heads) 0 h (omega (arith, s.buckets)) e 0 in
    (hd, subst (First (vec_items s.cells)) (sym hd) (first_free (vec_items s.cells) _ n (s.sorted 0 (omega arith))))

pub shift-requires-clause-buckets : goal.shift-requires-clause-buckets
shift-requires-clause-buckets c =
    let o = c.args.s.now.op in
    let w = cells_of c.args.s.now.row in
    let e = c.bucket.ensures in
    (omega arith, (omega (arith, e, bucket_high o w), λ z. omega (arith, z, e, bucket_low o w)))

pub shift-requires-clause-on : goal.shift-requires-clause-on
shift-requires-clause-on c =
    let f = first c.args.self.now c.index.result.now c.index.ensures c.requires.free in
    subst (λ x. On (map link_of (vec_items c.args.self.now.cells)) x (record { before = 0; cell = c.index.result.now })) f.0 f.1.on

pub shift-requires-clause-once : goal.shift-requires-clause-once
shift-requires-clause-once c =
    let s = c.args.self.now in
    let xs = vec_items s.cells in
    let h = c.index.result.now in
    let f = (first s h c.index.ensures c.requires.free).1 in
    let m : h - 1 < length (map lead_in xs) = simp length-map (omega (arith, f.low, f.high)) in
    ap (λ x. apart (somes (set (map lead_in xs) (h - 1) x))) (ap lead_in c.new-2.ensures ∙ ap Some c.new.ensures) ∙ used-apart (map lead_in xs) (h - 1) m _ f.free c.requires.absent s.once

pub returns : goal.returns
returns c = λ q v.
    let s = c.args.self.now in
    let xs = vec_items s.cells in
    let h = c.index.result.now in
    let f = (first s h c.index.ensures c.requires.free).1 in
    let m : h - 1 < length (map lead_in xs) = simp length-map (omega (arith, f.low, f.high)) in
    ap (λ es. held es q v) c.shift.ensures
    ∙ ap (λ x. held (somes (set (map lead_in xs) (h - 1) x)) q v) (ap lead_in c.new-2.ensures ∙ ap Some c.new.ensures)
    ∙ used-held (map lead_in xs) (h - 1) m _ f.free c.requires.absent q v
