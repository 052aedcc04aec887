use Rattle.std.proofs.Common.{◌+◌, ◌-◌, false, map, length, sym, ap, ◌∙◌, arith}
use Rattle.std.proofs.lemmas.List.{get_or-map, length-map}
use Rattle.chains.specs.Walk.{walk_of}
use Rattle.chains.proofs.Walking.{walk_end, walk_spent, walk_out, walk_at, walk_on, walk_whole}
use Rattle.chains.proofs.walks.walk.Goals as goal

pub returns-then-cell-eq0 : goal.returns-then-cell-eq0
returns-then-cell-eq0 g c =
    let e = c.loop-turn.invariant ∙ walk_end _ _ _ _ _ c.if-cell-eq0.true in
    record { is = sym e; chain = walk_whole _ _ _ _ _ e }

pub returns-in_default : goal.returns-in_default
returns-in_default g c =
    let u = length-map c.args.cells.now g.R.Linked.after in
    let e = c.loop-turn.invariant ∙ walk_out _ _ _ _ _ (omega arith) c.if-cell-eq0.false (omega (arith, u, c.in_default.ensures.lookup)) in
    record { is = sym e; chain = walk_whole _ _ _ _ _ e }

pub returns-then-test : goal.returns-then-test
returns-then-test g c =
    let xs = c.args.cells.now in
    let u = length-map xs g.R.Linked.after in
    let f = g.T.Test.passes c.args.test.now in
    let look = c.in-Some.ensures.lookup in
    let m = get_or-map f xs (c.loop-turn.cell - 1) c.in-Some.r.now false look.3.0 ∙ ap f (sym look.1) ∙ sym c.test.ensures ∙ c.if-test.true in
    let e = c.loop-turn.invariant ∙ walk_at _ _ _ _ _ (omega arith) c.if-cell-eq0.false (omega (arith, u, look.3.0)) m in
    record { is = sym e; chain = walk_whole _ _ _ _ _ e }

pub loop-turn-preserved : goal.loop-turn-preserved
loop-turn-preserved g c =
    let xs = c.args.cells.now in
    let n = g.R.Linked.after in
    let f = g.T.Test.passes c.args.test.now in
    let i = c.loop-turn.cell - 1 in
    let look = c.in-Some.ensures.lookup in
    let m = get_or-map f xs i c.in-Some.r.now false look.3.0 ∙ ap f (sym look.1) ∙ sym c.test.ensures ∙ c.if-test.false in
    let k = length xs - (c.loop-turn._turn + 1) in
    c.loop-turn.invariant
    ∙ walk_on _ _ _ _ (length xs - c.loop-turn._turn) k (omega arith) c.if-cell-eq0.false (omega (arith, length-map xs n, look.3.0)) m
    ∙ ap (walk_of k (map n xs) (map f xs) c.loop-turn.cell) (get_or-map n xs i c.in-Some.r.now 0 look.3.0 ∙ ap n (sym look.1) ∙ sym c.next-cell.ensures)

pub returns-then-cell-eq0-2 : goal.returns-then-cell-eq0-2
returns-then-cell-eq0-2 g c =
    let e = c.loop-turn.invariant ∙ walk_end _ _ _ _ _ c.if-cell-eq0-2.true in
    record { is = sym e; chain = walk_whole _ _ _ _ _ e }

pub returns-else-cell-eq0-2 : goal.returns-else-cell-eq0-2
returns-else-cell-eq0-2 g c =
    let e = c.loop-turn.invariant ∙ walk_spent _ _ _ _ _ (omega arith) c.if-cell-eq0-2.false in
    record { is = sym e; chain = walk_whole _ _ _ _ _ e }
