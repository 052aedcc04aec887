use Rattle.std.proofs.Common.{◌≡◌, ℕ, ◌<◌, List, map, length, get_or, Some, vec_items, sym, ap, ◌∙◌, arith}
use Rattle.std.proofs.lemmas.List.{length-map, get_or-map, map-set, map_push}
use Rattle.rows.specs.Row.{cells_of}
use Rattle.indexes.specs.declared.record.Record.{Record}
use Rattle.indexes.specs.Meaning.{held, apart, leading}
use Rattle.indexes.specs.Records.{lead_of, redirected}
use Rattle.indexes.specs.Maps.{held_set, apart_set, held_push, apart_push, held_at}
use Rattle.indexes.specs.Refusing.{taken_held}
use Rattle.indexes.proofs.plain.calls.PlainIndex.enter.Goals as goal

-- a record of the list that leads to another picture
redirected_at : (xs : List Record) (i p : ℕ) (r n : Record) → i < length (map lead_of xs) → r ≡ get_or xs i r → lead_of n ≡ redirected p (lead_of r) → lead_of n ≡ redirected p (get_or (map lead_of xs) i (lead_of r))
redirected_at xs i p r n l v e = e ∙ ap (redirected p) (ap lead_of v ∙ sym (get_or-map lead_of xs i r (lead_of r) (omega (arith, l, length-map xs lead_of))))

pub invariant_of-self-clause-once : goal.invariant_of-self-clause-once
invariant_of-self-clause-once c =
    let xs = vec_items c.args.self.now.records in
    let i = c.in-Some.i in
    let r = c.index_mut.result.now in
    let n = c.lead_to.new.self in
    let e = redirected_at xs i c.args.picture r n c.in-Some.ensures.within c.index_mut.ensures.value c.lead_to.ensures in
    ap apart (map-set lead_of xs i n) ∙ apart_set (map lead_of xs) _ _ i c.in-Some.ensures (lead_of r) (lead_of n) (ap (λ x. x.op) e) (ap (λ x. x.row) e) c.args.self.now.once

pub returns-in-Some-clause-answer : goal.returns-in-Some-clause-answer
returns-in-Some-clause-answer c =
    let es = map lead_of (vec_items c.args.self.now.records) in
    let s = rw c.in_ok-s.ensures.ok_part at c.new.ensures in
    let d = lead_of c.index_mut.result.now in
    let p = (get_or es c.in-Some.i d).picture in
    let h : held es c.args.op c.args.row.now ≡ Some p = cc (s.0, s.1, held_at es _ _ _ c.in-Some.ensures d) in
    sym (taken_held es c.args.op c.args.row.now p s.2 h)

pub returns-in-Some-clause-after : goal.returns-in-Some-clause-after
returns-in-Some-clause-after c q v =
    let xs = vec_items c.args.self.now.records in
    let i = c.in-Some.i in
    let r = c.index_mut.result.now in
    let n = c.lead_to.new.self in
    let e = redirected_at xs i c.args.picture r n c.in-Some.ensures.within c.index_mut.ensures.value c.lead_to.ensures in
    let s = rw c.in_ok-s.ensures.ok_part at c.new.ensures in
    let t = ap (λ es. held es q v) (map-set lead_of xs i n)
    ∙ held_set (map lead_of xs) _ _ i c.in-Some.ensures (lead_of r) (lead_of n) (ap (λ x. x.op) e) (ap (λ x. x.row) e) q v
    ∙ ap (λ p. leading (held (map lead_of xs)) c.in_ok-s.s.op (cells_of c.in_ok-s.s.row) (Some p) q v) (ap (λ x. x.picture) e) in
    cc (s.0, s.1, t)

pub invariant_of-self-in-None-clause-once : goal.invariant_of-self-in-None-clause-once
invariant_of-self-in-None-clause-once c =
    let xs = vec_items c.args.self.now.records in
    let n = c.new-in-None.result in
    let a = ap (λ x. held (map lead_of xs) x.op x.row) c.new-in-None.ensures ∙ c.in-None.ensures in
    ap (λ es. apart (map lead_of es)) c.push_reserved.ensures.items ∙ ap apart (map_push lead_of xs n) ∙ apart_push (map lead_of xs) (lead_of n) a c.args.self.now.once

pub returns-else-len-ge-LIMIT-clause-after : goal.returns-else-len-ge-LIMIT-clause-after
returns-else-len-ge-LIMIT-clause-after c q v =
    let xs = vec_items c.args.self.now.records in
    let n = c.new-in-None.result in
    let is = c.new-in-None.ensures in
    let a = ap (λ x. held (map lead_of xs) x.op x.row) is ∙ c.in-None.ensures in
    let s = rw c.in_ok-s.ensures.ok_part at c.new.ensures in
    let t = ap (λ es. held (map lead_of es) q v) c.push_reserved.ensures.items ∙ ap (λ es. held es q v) (map_push lead_of xs n)
    ∙ held_push (map lead_of xs) (lead_of n) a q v ∙ ap (λ x. leading (held (map lead_of xs)) x.op x.row (Some x.picture) q v) is in
    cc (s.0, s.1, t)
