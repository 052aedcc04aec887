use Rattle.std.proofs.Common.{◌≡◌, ◌+◌, ◌∷◌, Some, None, take, sym, ap, ◌∙◌, rules}
use Rattle.std.specs.Prelude.{position}
use Rattle.std.proofs.lemmas.List.{take_rest}
use Rattle.printouts.specs.Printouts.{lines}
use Rattle.printouts.proofs.Cutting.{newline, cut_at, cut_last}
use Rattle.printouts.proofs.cut.cut_line.Goals as goal

pub returns-in-Some-clause-lines : goal.returns-in-Some-clause-lines
returns-in-Some-clause-lines c =
    let text = c.args.text.now in
    let i = c.in-Some.end in
    let e : position newline text ≡ Some i = sym c.newline.ensures ∙ c.in-Some.is in
    cut_at text i e ∙ ap (λ x. take i text ∷ lines x) (sym (take_rest text (i + 1)))

pub returns-in-None-clause-lines : goal.returns-in-None-clause-lines
returns-in-None-clause-lines c =
    let text = c.args.text.now in
    let e : position newline text ≡ None = sym c.newline.ensures ∙ c.in-None.is in
    cut_last text (search rules) e
