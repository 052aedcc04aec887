use Rattle.std.proofs.Common.{◌≡◌, length, replicate, vec_items, ap, ◌∙◌, arith}
use Rattle.std.specs.Vec.{with_items}
use Rattle.std.proofs.lemmas.List.{with_items_is}
use Rattle.indexes.specs.Spares.{none_sorted}
use Rattle.indexes.proofs.chained.calls.ChainedIndex.reset.Goals as goal

pub invariant_of-self-clause-sorted : goal.invariant_of-self-clause-sorted
invariant_of-self-clause-sorted c b l =
    let s = c.args.self.now in
    let ws = c.fill.new.self in
    let n : length c.as_mut_slice.result.now ≡ 1025 = omega (arith, s.buckets, c.as_mut_slice.ensures.len) in
    let h : vec_items (with_items s.heads ws) ≡ replicate 1025 0 =
    with_items_is s.heads ws (omega (arith, c.fill.ensures.len)) ∙ c.fill.ensures.after (λ y q. q) ∙ ap (λ k. replicate k 0) n in
    none_sorted _ _ 1025 b c.clear.ensures.items h l
