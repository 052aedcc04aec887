use Rattle.std.proofs.Common.{◌≡◌, ◌-◌, map, length}
use Rattle.chains.specs.Walk.{walk_of}
use Rattle.chains.proofs.walks.walk.Given as goal

abbrev pub invariant-loop-turn : goal.invariant-loop-turn
invariant-loop-turn g l =
    let links = map g.R.Linked.after l.cells in
    let marks = map (g.T.Test.passes l.test) l.cells in
    walk_of (length l.cells) links marks 0 l.head ≡ walk_of (length l.cells - l._turn) links marks l.before l.cell
