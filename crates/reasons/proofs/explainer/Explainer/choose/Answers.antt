use Rattle.std.proofs.Common.{◌≤◌, Bool, List, length, vec_len, sym, subst, arith}
use Rattle.std.proofs.lemmas.List.{length-map}
use Rattle.congruence.specs.Drawn.{sheet, reason_of, reasons}
use Rattle.reasons.specs.Marks.{Enough}
use Rattle.reasons.proofs.States.{enough_all}
use Rattle.reasons.proofs.explainer.Explainer.choose.Goals as goal

pub returns-then-not-certify : goal.returns-then-not-certify
returns-then-not-certify g c E x =
    let P = sheet c.args.asked.now.pictures.now in
    let js = c.args.asked.now.journal.now in
    let marks = c.guess.new.self.marks in
    let l : length (reasons js) ≤ vec_len marks = omega (arith, length-map js reason_of, c.guess.new.self.marked, c.requires) in
    subst (λ (bs : List Bool). Enough P (reasons js) c.args.asked.now.a c.args.asked.now.b bs) (sym (c.fill.ensures.items (λ y e. e)))
    (enough_all P E (reasons js) c.args.asked.now.a c.args.asked.now.b (vec_len marks) l x.0 x.1)
