use Rattle.std.proofs.Common.{rules, ◌≡◌, ℕ, ◌+◌, ◌<◌, List, length, get_or, sym, ap, ◌∙◌, subst, arith}
use Rattle.std.specs.List.{range_with_len}
use Rattle.std.proofs.lemmas.List.{length-map, length_push, get_or-map}
use Rattle.std.proofs.lemmas.Slice.Zip.{zip_turn, zip_end}
use Rattle.theory.specs.Reasons.{Reason}
use Rattle.congruence.specs.Drawn.{drawn, sheet, reason_of, reasons}
use Rattle.reasons.specs.Marks.{Absorbed}
use Rattle.reasons.proofs.States.{State, state_none, state_no, state_yes, state_all}
use Rattle.reasons.proofs.certify.certify.Goals as goal
use Rattle.reasons.proofs.certify.certify.Goals.{else-marked-via-then-marked+else-not-absorb, else-marked-via-else-marked}

pub loop-join-init : goal.loop-join-init
loop-join-init g c =
    let ps = c.args.asked.now.pictures.now in
    state_none (sheet ps) _ _ _ (c.in-Ok.ensures.1 ∙ ap (range_with_len 1) (sym (length-map ps drawn)))

pub loop-join-preserved : goal.loop-join-preserved
loop-join-preserved g c =
    let P = sheet c.args.asked.now.pictures.now in
    let js = c.args.asked.now.journal.now in
    let bs = c.args.marks.now in
    let xs = c.loop-join.yielded in
    let i = length xs in
    let x = c.in-Some.join.now in
    let at = zip_turn js bs xs c.into_iter-join-iterator.result c.loop-join.join-iterator c.next.new.self c.next.result (search rules) (search rules) c.loop-join.yielded_by (c.in-Some.join, c.in-Some.marked) c.in-Some.is c.next.ensures.steps in
    let rs = g.S.Keeper.reps c.loop-join.scratch in
    let d : Reason = reason_of x in
    let lt : i < length (reasons js) = omega (arith, at.0, length-map js reason_of) in
    let is : get_or (reasons js) i d ≡ reason_of x = get_or-map reason_of js i x d at.0 ∙ ap reason_of (sym (at.2 x)) in
    let next = c.else-marked.scratch in
    let done : State P (reasons js) bs (i + 1) (g.S.Keeper.reps next) =
    elim c.else-marked.branch [
      | else-marked-via-then-marked+else-not-absorb w ↦
          let rs' = g.S.Keeper.reps w.absorb.new.scratch in
          let a : Absorbed P (get_or (reasons js) i d) rs rs' = subst (λ (s : Reason). Absorbed P s rs rs') (sym is) (w.absorb.ensures w.if-not-absorb.false) in
          subst (λ (k : List ℕ). State P (reasons js) bs (i + 1) k) (ap g.S.Keeper.reps (sym w.scratch-is)) (state_yes P (reasons js) bs i d lt at.1 rs c.loop-join.invariant rs' (sym (at.3 _) ∙ w.if-marked.true) a)
      | else-marked-via-else-marked w ↦
          subst (λ (k : List ℕ). State P (reasons js) bs (i + 1) k) (ap g.S.Keeper.reps (sym w.scratch-is)) (state_no P (reasons js) bs i d lt at.1 rs c.loop-join.invariant (sym (at.3 _) ∙ w.if-marked.false))
    ] in
    subst (λ (n : ℕ). State P (reasons js) bs n (g.S.Keeper.reps next)) (sym (length_push xs _)) done

pub returns : goal.returns
returns g c = λ t.
    let js = c.args.asked.now.journal.now in
    let n = zip_end js c.args.marks.now c.loop-join.yielded c.into_iter-join-iterator.result c.loop-join.join-iterator c.next.new.self c.next.result (search rules) (search rules) c.loop-join.yielded_by c.in-None.is c.next.ensures.steps in
    state_all _ _ _ (length c.loop-join.yielded) _ c.loop-join.invariant (omega (arith, n, c.requires, length-map js reason_of)) _ _ (c.one_class.ensures.answer t)
