use Rattle.std.proofs.Common.{◌≡◌, ◌-◌, ◌<◌, ◌++◌, map, length, sym, ap, ◌∙◌, subst, arith}
use Rattle.std.proofs.lemmas.List.{get_or-map, length-map}
use Rattle.std.proofs.lemmas.Bool.{true≢false}
use Rattle.chains.specs.Chain.{Chain, after_cell}
use Rattle.chains.specs.Build.{with_next}
use Rattle.chains.proofs.Edits.{unlinked_first, unlinked_later, mid_in, last_in}
use Rattle.chains.proofs.Relinked.{is_the_cell, cell_is, no_cell, links_with_next}
use Rattle.chains.proofs.builds.unlink.Goals as goal
use Rattle.chains.proofs.builds.unlink.Goals.{then-not-has-via-then-not-has, then-not-has-via-else-not-has+then-at-cells}

pub returns-then-not-has-clause-chain : goal.returns-then-not-has-clause-chain
returns-then-not-has-clause-chain g c front rest a e =
    let xs = c.args.cells.now in
    let u = length-map xs g.R.Linked.after in
    let m = mid_in _ c.args.head c.args.at.cell front rest a in
    elim c.then-not-has.branch [
      | then-not-has-via-then-not-has w ↦ true≢false (sym (is_the_cell (length xs) c.args.at.cell m.0 (omega (arith, m.1, u))) ∙ sym c.has.ensures ∙ w.if-not-has.true)
      | then-not-has-via-else-not-has+then-at-cells w ↦ omega (arith, e, w.if-at-cells.true, last_in _ c.args.head 0 front _ (omega arith) a, u)
    ]

pub returns-then-at-eq0-clause-chain : goal.returns-then-at-eq0-clause-chain
returns-then-at-eq0-clause-chain g c front rest a e =
    let L = g.R.Linked in
    let xs = c.args.cells.now in
    let ls = map L.after xs in
    let k = c.args.at.cell in
    let w = cell_is (length xs) k (sym c.has.ensures ∙ c.if-not-has.false) in
    let i : k - 1 < length xs = omega (arith, w.0, w.1) in
    let n : c.next-next.result ≡ after_cell ls k = c.next-next.ensures ∙ sym (get_or-map L.after xs (k - 1) c.index-cells-at.result 0 i) in
    let s = ap (map L.after) (c.link.ensures ∙ ap (λ j. with_next L.led xs j c.next-next.result) c.if-at-eq0.true ∙ no_cell L.led xs c.next-next.result) in
    subst (λ x. Chain x c.next-next.result (front ++ rest)) (sym s) (subst (λ x. Chain ls x (front ++ rest)) (sym n) (unlinked_first ls c.args.head c.args.at.before k front rest c.if-at-eq0.true a e))

pub returns-else-at-eq0-clause-chain : goal.returns-else-at-eq0-clause-chain
returns-else-at-eq0-clause-chain g c front rest a e =
    let L = g.R.Linked in
    let xs = c.args.cells.now in
    let ls = map L.after xs in
    let k = c.args.at.cell in
    let b = c.args.at.before in
    let w = cell_is (length xs) k (sym c.has.ensures ∙ c.if-not-has.false) in
    let i : k - 1 < length xs = omega (arith, w.0, w.1) in
    let n : c.next-next.result ≡ after_cell ls k = c.next-next.ensures ∙ sym (get_or-map L.after xs (k - 1) c.index-cells-at.result 0 i) in
    let z = c.if-at-eq0.false in
    let s = ap (map L.after) (c.link.ensures ∙ ap (with_next L.led xs b) n) ∙ links_with_next L.led L.after g.met.R.Linked.leads xs b (after_cell ls k) (omega (arith, z)) in
    subst (λ x. Chain x c.args.head (front ++ rest)) (sym s) (unlinked_later ls c.args.head b k front rest z a e)
