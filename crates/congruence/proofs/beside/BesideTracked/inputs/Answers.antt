use Rattle.std.proofs.Common.{false, sym, refl, ap, ◌∙◌}
use Rattle.std.proofs.lemmas.Bool.{both_ways}
use Rattle.congruence.specs.declared.picture.Picture.{Picture as Held}
use Rattle.congruence.specs.Drawn.{nothing}
use Rattle.congruence.proofs.Besides.{beside_inside, beside_at}
use Rattle.congruence.proofs.beside.BesideTracked.inputs.Goals as goal

pub unreachable-requires : goal.unreachable-requires
unreachable-requires c = both_ways false refl (c.in_default.ensures.lookup.2 (beside_inside c.args.self.now.pictures.now c.args.self.now.notes.now c.args.i c.requires).0)

pub returns : goal.returns
returns c =
    let ps = c.args.self.now.pictures.now in
    let ns = c.args.self.now.notes.now in
    let at = beside_at ps ns c.args.i c.in-Some.picture.now (record { row = nothing.row; waits = false }) c.requires in
    ap (λ (h : Held). h.inputs) c.in-Some.ensures.lookup.1 ∙ sym (ap (λ (h : Held). h.inputs) at)
