use Rattle.std.proofs.Common.{arith}
use Rattle.congruence.proofs.Besides.{beside_sized}
use Rattle.agreement.proofs.sharing.tie_beside.Goals as goal

pub tie-requires-clause-on : goal.tie-requires-clause-on
tie-requires-clause-on g c =
    let e = beside_sized c.args.pictures.now c.args.notes.now c.requires.sized in
    let on = c.requires.on in
    ((on.0.0, omega (arith, e, on.0.1)), (on.1.0, omega (arith, e, on.1.1)))
