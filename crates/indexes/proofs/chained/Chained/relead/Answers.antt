use Rattle.std.proofs.Common.{◌-◌, ◌<◌, map, length, get_or, set, vec_items, sym, ap, ◌∙◌, subst, arith}
use Rattle.std.proofs.lemmas.List.{length-map}
use Rattle.indexes.specs.Meaning.{held, apart}
use Rattle.indexes.specs.Buckets.{link_of, lead_in, bucket_of, somes, SortedOut}
use Rattle.indexes.specs.Cells.{located_has}
use Rattle.indexes.specs.Leads.{led-apart, led-held, redirected_leads, redirected_buckets, redirected_links}
use Rattle.indexes.proofs.chained.Chained.relead.Goals as goal

pub invariant_of-self : goal.invariant_of-self
invariant_of-self c =
    let s = c.args.self.now in
    let xs = vec_items s.cells in
    let hs = vec_items s.heads in
    let i = c.args.f.cell - 1 in
    let l : i < length xs = omega (arith, c.requires.low, c.requires.high) in
    let m : i < length (map lead_in xs) = simp length-map l in
    let n = c.lead_to.new.self in
    let t = c.lead_to.ensures in
    let e = c.index_mut.ensures.value in
    record {
      buckets = s.buckets;
      table = s.table;
      room = s.room;
      once = ap (λ x. apart (somes x)) (redirected_leads xs i _ _ n l e t.next t.lead) ∙ led-apart (map lead_in xs) i m _ _ (located_has xs hs _ _ c.args.f c.requires) s.once _;
      sorted = λ b k. subst (λ x. SortedOut x (map bucket_of (set xs i n)) (get_or hs b 0) b) (sym (redirected_links xs i _ _ n l e t.next t.lead))
          (subst (λ x. SortedOut (map link_of xs) x (get_or hs b 0) b) (sym (redirected_buckets xs i _ _ n l e t.next t.lead)) (s.sorted b k));
    }

pub returns : goal.returns
returns c = λ q v.
    let s = c.args.self.now in
    let xs = vec_items s.cells in
    let i = c.args.f.cell - 1 in
    let l : i < length xs = omega (arith, c.requires.low, c.requires.high) in
    let m : i < length (map lead_in xs) = simp length-map l in
    ap (λ x. held (somes x) q v) (redirected_leads xs i _ _ _ l c.index_mut.ensures.value c.lead_to.ensures.next c.lead_to.ensures.lead)
    ∙ led-held (map lead_in xs) i m _ _ (located_has xs _ _ _ c.args.f c.requires) s.once _ q v
