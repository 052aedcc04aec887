use Rattle.std.proofs.Common.{◌≡◌, ◌-◌, ◌<◌, ◌∷◌, ◌++◌, map, length, get_or, set, vec_items, sym, ap, ◌∙◌, subst, arith}
use Rattle.std.specs.Vec.{with_items}
use Rattle.std.proofs.lemmas.List.{length-map, with_items_is, get_or_read}
use Rattle.chains.specs.Chain.{Chain}
use Rattle.chains.proofs.Edits.{mid_in}
use Rattle.indexes.specs.Meaning.{apart}
use Rattle.indexes.specs.Buckets.{link_of, bucket_of, leads_of, SortedOut, left_out, moved_cell}
use Rattle.indexes.proofs.Bodies.{links_left_out, links_moved, buckets_moved, leads_moved}
use Rattle.indexes.proofs.Moves.{without_next}
use Rattle.indexes.proofs.Shifts.{shifted}
use Rattle.indexes.proofs.chained.Chained.shift.Goals as goal

pub returns : goal.returns
returns c =
    let s = c.args.self.now in
    let ys = c.move_cell-out.new.cells in
    let f = c.args.f in
    let v = c.as_mut_slice.ensures.value in
    let r : vec_items (with_items s.cells ys) ≡ ys = with_items_is s.cells ys (omega (arith, ap length v)) in
    ap leads_of (r ∙ c.move_cell-out.ensures.records ∙ ap (λ x. moved_cell x f c.index-2.result.now c.args.b) v) ∙ leads_moved (vec_items s.cells) f c.index-2.result.now c.args.b

pub invariant_of-self : goal.invariant_of-self
invariant_of-self c =
    let s = c.args.self.now in
    let xs = vec_items s.cells in
    let hs = vec_items s.heads in
    let f = c.args.f in
    let body = c.args.b in
    let to = c.index-2.result.now in
    let out = c.move_cell-out.result in
    let ys = c.move_cell-out.new.cells in
    let o = c.requires.on in
    let v = c.as_mut_slice.ensures.value in
    let r : vec_items (with_items s.cells ys) ≡ moved_cell xs f to body =
    with_items_is s.cells ys (omega (arith, ap length v)) ∙ c.move_cell-out.ensures.records ∙ ap (λ x. moved_cell x f to body) v in
    let hl : length hs ≡ 1025 = omega (arith, s.buckets) in
    let hf : c.index.result.now ≡ get_or hs c.args.from 0 = get_or_read hs c.args.from _ (omega arith) c.index.ensures 0 in
    let ht : to ≡ get_or hs c.args.to 0 = get_or_read hs c.args.to _ (omega arith) c.index-2.ensures 0 in
    let z : 0 < f.cell = (mid_in (map link_of xs) _ f.cell o.front o.rest o.chain).0 in
    let lk = ap (map link_of) r ∙ links_moved xs f to body z ∙ ap (set (without_next (map link_of xs) f.before f.cell) (f.cell - 1)) ht in
    let bk = ap (map bucket_of) r ∙ buckets_moved xs f to body ∙ ap (set (map bucket_of xs) (f.cell - 1)) c.requires.goes in
    let lf : Chain (without_next (map link_of xs) f.before f.cell) out (o.front ++ o.rest) =
    subst (λ x. Chain x out (o.front ++ o.rest)) (links_left_out xs f)
    (subst (λ x. Chain (map link_of (left_out x f)) out (o.front ++ o.rest)) v (c.move_cell-out.ensures.left o.front o.rest
    (subst (λ x. Chain (map link_of x) c.index.result.now (o.front ++ f.cell ∷ o.rest)) (sym v) (subst (λ h. Chain (map link_of xs) h (o.front ++ f.cell ∷ o.rest)) (sym hf) o.chain))
    o.before)) in
    let all = shifted (map link_of xs) (map bucket_of xs) hs (length-map xs bucket_of ∙ sym (length-map xs link_of)) hl s.sorted c.args.from c.args.to out f c.requires.buckets.0 c.requires.buckets.1.0 c.requires.buckets.1.1 o lf in
    let hs' = set (set hs c.args.from out) c.args.to f.cell in
    record {
      buckets = s.buckets;
      table = s.table;
      room = s.room;
      once = ap (λ x. apart (leads_of x)) r ∙ ap apart (leads_moved xs f to body) ∙ c.requires.once;
      sorted = λ b l. subst (λ x. SortedOut x (map bucket_of (vec_items (with_items s.cells ys))) (get_or hs' b 0) b) (sym lk)
          (subst (λ x. SortedOut (set (without_next (map link_of xs) f.before f.cell) (f.cell - 1) (get_or hs c.args.to 0)) x (get_or hs' b 0) b) (sym bk) (all b l));
    }
