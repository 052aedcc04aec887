use Rattle.std.proofs.Common.{true, List, length, ap}
use Rattle.congruence.specs.declared.beside.Note.{Note}
use Rattle.congruence.proofs.Besides.{beside_inside, beside_set, behind_set}
use Rattle.congruence.proofs.beside.BesideTracked.note.Goals as goal

pub returns-clause-after : goal.returns-clause-after
returns-clause-after c = beside_set c.args.self.now.pictures.now c.args.self.now.notes.now c.args.i (record { row = c.args.row; waits = true }) c.requires

pub returns-clause-frame : goal.returns-clause-frame
returns-clause-frame c =
    let ps = c.args.self.now.pictures.now in
    let ns = c.args.self.now.notes.now in
    ap (λ (d : List Note). (ps, d, c.args.self.now.notes.ghost_name)) (behind_set (length ps) c.args.i ns (record { row = c.args.row; waits = true }) (beside_inside ps ns c.args.i c.requires).0)
