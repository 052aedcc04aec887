use Rattle.std.proofs.Common.{◌∷◌, map, sym, ap, ◌∙◌, subst, arith}
use Rattle.std.proofs.lemmas.List.{length-map}
use Rattle.chains.specs.Chain.{Chain}
use Rattle.chains.proofs.Paths.{chain_front}
use Rattle.chains.proofs.Relinked.{cell_is, not_cell, links_with_next}
use Rattle.chains.proofs.builds.push.Goals as goal

pub returns-then-not-has-clause-records : goal.returns-then-not-has-clause-records
returns-then-not-has-clause-records g c = sym (not_cell _ _ _ _ (sym c.has.ensures ∙ c.if-not-has.true))

pub returns-clause-chain : goal.returns-clause-chain
returns-clause-chain g c p a u =
    let L = g.R.Linked in
    let xs = c.args.cells.now in
    let k = c.args.cell in
    let w = cell_is _ k (sym c.has.ensures ∙ c.if-not-has.false) in
    let e = ap (map L.after) c.link.ensures ∙ links_with_next L.led L.after g.met.R.Linked.leads xs k c.args.head w.0 in
    subst (λ ls. Chain ls k (k ∷ p)) (sym e) (chain_front _ _ p k w.0 (omega (arith, w.1, length-map xs L.after)) u a)
