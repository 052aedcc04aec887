use Rattle.std.proofs.Common.{false, get_or, set, sym, ap, ◌∙◌, List, length}
use Rattle.rows.specs.declared.row.Row.{Row}
use Rattle.congruence.specs.declared.picture.Picture.{Picture as Held}
use Rattle.congruence.specs.declared.beside.Note.{Note}
use Rattle.congruence.specs.Drawn.{beside, held_at}
use Rattle.congruence.proofs.Besides.{beside_inside, beside_at, beside_set, behind_set}
use Rattle.congruence.proofs.beside.BesideTracked.rest.Goals as goal

pub returns-clause-after : goal.returns-clause-after
returns-clause-after c =
    let ps = c.args.self.now.pictures.now in
    let ns = c.args.self.now.notes.now in
    let i = c.args.i in
    let both = beside ps ns in
    let h = held_at both i in
    let n = get_or ns i c.index-self-i.result in
    let at = beside_at ps ns i (held_at ps i) c.index-self-i.result c.requires in
    beside_set ps ns i (record { row = n.row; waits = false }) c.requires ∙ ap (λ (w : Row 4). set both i (record { inputs = h.inputs; row = w; op = h.op; waits = false })) (sym (ap (λ (q : Held). q.row) at))

pub returns-clause-frame : goal.returns-clause-frame
returns-clause-frame c =
    let ps = c.args.self.now.pictures.now in
    let ns = c.args.self.now.notes.now in
    ap (λ (d : List Note). (ps, d, c.args.self.now.notes.ghost_name)) (behind_set (length ps) c.args.i ns (record { row = (get_or c.args.self.now.notes.now c.args.i c.index-self-i.result).row; waits = false }) (beside_inside ps ns c.args.i c.requires).0)
