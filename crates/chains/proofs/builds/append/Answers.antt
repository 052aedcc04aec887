use Rattle.std.proofs.Common.{◌-◌, [], ◌∷◌, ◌++◌, map, set, sym, ap, ◌∙◌, subst, arith}
use Rattle.std.proofs.lemmas.List.{length-map}
use Rattle.chains.specs.Chain.{Chain}
use Rattle.chains.specs.Build.{with_next}
use Rattle.chains.proofs.Edits.{last_of_none, last_of_some}
use Rattle.chains.proofs.Relinked.{cell_is, no_cell, links_with_next}
use Rattle.chains.proofs.builds.append.Goals as goal

pub returns-then-last-eq0-clause-chain : goal.returns-then-last-eq0-clause-chain
returns-then-last-eq0-clause-chain g c p a e u =
    let L = g.R.Linked in
    let xs = c.args.cells.now in
    let k = c.args.cell in
    let w = cell_is _ k (sym c.has.ensures ∙ c.if-not-has.false) in
    let o = with_next L.led xs k 0 in
    let r = c.link-2.ensures ∙ ap (λ ys. with_next L.led ys c.args.last k) c.link.ensures ∙ ap (λ j. with_next L.led o j k) c.if-last-eq0.true ∙ no_cell L.led o k in
    let s = ap (map L.after) r ∙ links_with_next L.led L.after g.met.R.Linked.leads xs k 0 w.0 in
    subst (λ x. Chain x k (p ++ k ∷ [])) (sym s) (last_of_none (map L.after xs) c.args.head c.args.last k p w.0 (omega (arith, w.1, length-map xs L.after)) c.if-last-eq0.true a e)

pub returns-else-last-eq0-clause-chain : goal.returns-else-last-eq0-clause-chain
returns-else-last-eq0-clause-chain g c p a e u =
    let L = g.R.Linked in
    let xs = c.args.cells.now in
    let k = c.args.cell in
    let b = c.args.last in
    let w = cell_is _ k (sym c.has.ensures ∙ c.if-not-has.false) in
    let z = c.if-last-eq0.false in
    let law = links_with_next L.led L.after g.met.R.Linked.leads in
    let s = ap (map L.after) c.link-2.ensures ∙ law c.link.new.cells b k (omega (arith, z)) ∙ ap (λ ys. set (map L.after ys) (b - 1) k) c.link.ensures ∙ ap (λ x. set x (b - 1) k) (law xs k 0 w.0) in
    subst (λ x. Chain x c.args.head (p ++ k ∷ [])) (sym s) (last_of_some (map L.after xs) c.args.head b k p w.0 (omega (arith, w.1, length-map xs L.after)) z a e u)
