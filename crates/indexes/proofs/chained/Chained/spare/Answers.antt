use Rattle.std.proofs.Common.{map, length, get_or, set, vec_items, sym, ap, ◌∙◌, subst, arith}
use Rattle.std.proofs.lemmas.List.{get_or_read}
use Rattle.std.proofs.lemmas.Bool.{cond-true, cond-false, lt-ltb, le-ltb}
use Rattle.indexes.specs.Meaning.{apart}
use Rattle.indexes.specs.Buckets.{link_of, bucket_of, leads_of, SortedOut}
use Rattle.indexes.specs.Spares.{leads_few, free_few, full_used, first_free, grown, leads_grown}
use Rattle.indexes.proofs.chained.Chained.spare.Goals as goal

pub returns-then-index-ne0-clause-answer : goal.returns-then-index-ne0-clause-answer
returns-then-index-ne0-clause-answer c =
    let s = c.args.self.now in
    let xs = vec_items s.cells in
    let hd = get_or_read (vec_items s.heads) 0 c.index.result.now (omega (arith, s.buckets)) c.index.ensures 0 in
    let f = first_free xs _ (λ z. c.if-index-ne0.true (hd ∙ z)) (s.sorted 0 (omega arith)) in
    sym (cond-true _ _ _ (lt-ltb (length (leads_of xs)) 1024 (omega (arith, free_few xs _ f))))

pub returns-then-made-ge-LIMIT-clause-answer : goal.returns-then-made-ge-LIMIT-clause-answer
returns-then-made-ge-LIMIT-clause-answer c =
    let s = c.args.self.now in
    let xs = vec_items s.cells in
    let hd = get_or_read (vec_items s.heads) 0 c.index.result.now (omega (arith, s.buckets)) c.index.ensures 0 in
    let f = full_used xs _ (sym hd ∙ c.if-index-ne0.false) (s.sorted 0 (omega arith)) in
    sym (cond-false _ _ _ (le-ltb (length (leads_of xs)) 1024 (omega (arith, f, c.if-made-ge-LIMIT.true))))

pub invariant_of-self : goal.invariant_of-self
invariant_of-self c =
    let s = c.args.self.now in
    let xs = vec_items s.cells in
    let hs = vec_items s.heads in
    let n = c.spare.result in
    let hd = get_or_read hs 0 c.index.result.now (omega (arith, s.buckets)) c.index.ensures 0 in
    let e = c.push_reserved.ensures.items in
    let all = grown xs hs n c.len.result c.spare.ensures (omega (arith, s.buckets)) (sym hd ∙ c.if-index-ne0.false) (omega arith) s.sorted in
    record {
      buckets = s.buckets;
      table = omega arith;
      room = omega arith;
      once = ap (λ x. apart (leads_of x)) e ∙ ap apart (leads_grown xs n c.spare.ensures) ∙ s.once;
      sorted = λ b l. subst (λ x. SortedOut (map link_of x) (map bucket_of x) (get_or (set hs 0 c.len.result) b 0) b) (sym e) (all b l);
    }

pub returns-clause-answer : goal.returns-clause-answer
returns-clause-answer c =
    let xs = vec_items c.args.self.now.cells in
    sym (cond-true _ _ _ (lt-ltb (length (leads_of xs)) 1024 (omega (arith, leads_few xs))))

pub returns-clause-same : goal.returns-clause-same
returns-clause-same c = ap leads_of c.push_reserved.ensures.items ∙ leads_grown (vec_items c.args.self.now.cells) _ c.spare.ensures
