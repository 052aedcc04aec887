use Rattle.std.proofs.Common.{rules, ◌∷◌, [], ◌++◌, length, take, sym, ap, ◌∙◌, arith}
use Rattle.std.proofs.lemmas.List.{length_push}
use Rattle.std.proofs.lemmas.Slice.Zip.{zip_turn, zip_end}
use Rattle.theory.specs.Slices.{kept}
use Rattle.reasons.proofs.Marked.{kept_more_yes, kept_more_no, kept_min, kept_few_of}
use Rattle.reasons.proofs.explainer.calls.gather.Goals as goal

pub push_reserved-requires : goal.push_reserved-requires
push_reserved-requires c =
    let js = c.args.journal.now in
    let bs = c.args.marks.now in
    let xs = c.loop-join.yielded in
    let at = zip_turn js bs xs c.into_iter-join-iterator.result c.loop-join.join-iterator c.next.new.self c.next.result (search rules) (search rules) c.loop-join.yielded_by (c.in-Some.join, c.in-Some.marked) c.in-Some.is c.next.ensures.steps in
    omega (arith, at.0, ap length c.loop-join.invariant.0, c.loop-join.invariant.1, kept_few_of bs js (length xs))

pub loop-join-preserved-then-marked : goal.loop-join-preserved-then-marked
loop-join-preserved-then-marked c =
    let js = c.args.journal.now in
    let bs = c.args.marks.now in
    let xs = c.loop-join.yielded in
    let at = zip_turn js bs xs c.into_iter-join-iterator.result c.loop-join.join-iterator c.next.new.self c.next.result (search rules) (search rules) c.loop-join.yielded_by (c.in-Some.join, c.in-Some.marked) c.in-Some.is c.next.ensures.steps in
    let x = c.in-Some.join.now in
    let e = kept_more_yes bs js (length xs) c.in-Some.marked.now x at.1 at.0 (sym (at.3 c.in-Some.marked.now) ∙ c.if-marked.true) in (
      c.push_reserved.ensures.items ∙ ap (λ z. z ++ x ∷ []) c.loop-join.invariant.0 ∙ ap (λ z. kept (take (length xs) bs) (take (length xs) js) ++ z ∷ []) (at.2 x)
          ∙ sym e ∙ ap (λ n. kept (take n bs) (take n js)) (sym (length_push xs _)),
      c.push_reserved.ensures.capacity ∙ c.loop-join.invariant.1,
    )

pub loop-join-preserved : goal.loop-join-preserved
loop-join-preserved c =
    let js = c.args.journal.now in
    let bs = c.args.marks.now in
    let xs = c.loop-join.yielded in
    let at = zip_turn js bs xs c.into_iter-join-iterator.result c.loop-join.join-iterator c.next.new.self c.next.result (search rules) (search rules) c.loop-join.yielded_by (c.in-Some.join, c.in-Some.marked) c.in-Some.is c.next.ensures.steps in
    let e = kept_more_no bs js (length xs) c.in-Some.marked.now c.in-Some.join.now at.1 at.0 (sym (at.3 c.in-Some.marked.now) ∙ c.if-marked.false) in (
      c.loop-join.invariant.0 ∙ sym e ∙ ap (λ n. kept (take n bs) (take n js)) (sym (length_push xs _)),
      c.loop-join.invariant.1,
    )

pub returns : goal.returns
returns c =
    let js = c.args.journal.now in
    let bs = c.args.marks.now in
    let xs = c.loop-join.yielded in
    let n = zip_end js bs xs c.into_iter-join-iterator.result c.loop-join.join-iterator c.next.new.self c.next.result (search rules) (search rules) c.loop-join.yielded_by c.in-None.is c.next.ensures.steps in
    record {
      items = c.loop-join.invariant.0 ∙ kept_min bs js (length xs) n;
      capacity = c.loop-join.invariant.1 ∙ c.clear.ensures.capacity;
    }
