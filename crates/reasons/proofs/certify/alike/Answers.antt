use Rattle.std.proofs.Common.{rules, ℕ, List, length, take, sym, ◌∙◌, subst, subst₂, arith}
use Rattle.std.specs.List.{AllZip}
use Rattle.std.proofs.lemmas.List.{length_push}
use Rattle.std.proofs.lemmas.Slice.Zip.{zip_turn, zip_end}
use Rattle.reasons.specs.Marks.{Alike}
use Rattle.reasons.proofs.Rows.{pairs_more, pairs_all}
use Rattle.reasons.proofs.certify.alike.Goals as goal

pub loop-x-preserved : goal.loop-x-preserved
loop-x-preserved g c =
    let rs = g.S.Keeper.reps c.args.scratch.now in
    let xs = c.args.left.now in
    let ys = c.args.right.now in
    let k = length c.loop-x.yielded in
    let at = zip_turn xs ys c.loop-x.yielded c.into_iter-x-iterator.result c.loop-x.x-iterator c.next.new.self c.next.result (search rules) (search rules) c.loop-x.yielded_by (c.in-Some.x, c.in-Some.y) c.in-Some.is c.next.ensures.steps in
    let same = c.loop-x.invariant.0 in
    let one : Alike rs c.in-Some.x.now c.in-Some.y.now = subst (λ (r : List ℕ). Alike r c.in-Some.x.now c.in-Some.y.now) same (c.one_class.ensures.answer c.if-not-one_class.false) in (
      c.one_class.ensures.same ∙ same,
      subst (λ (n : ℕ). AllZip (Alike rs) (take n xs) (take n ys)) (sym (length_push c.loop-x.yielded _))
          (pairs_more (Alike rs) xs ys k at.0 at.1 c.loop-x.invariant.1 (subst₂ (λ (a b : ℕ). Alike rs a b) (at.2 0) (at.3 0) one)),
    )

pub returns : goal.returns
returns g c =
    let xs = c.args.left.now in
    let ys = c.args.right.now in
    let n = zip_end xs ys c.loop-x.yielded c.into_iter-x-iterator.result c.loop-x.x-iterator c.next.new.self c.next.result (search rules) (search rules) c.loop-x.yielded_by c.in-None.is c.next.ensures.steps in
    record {
      answer = λ _. pairs_all _ xs ys (length c.loop-x.yielded) (omega (arith, n)) (omega (arith, n)) c.loop-x.invariant.1;
      same = c.loop-x.invariant.0;
    }
