use Rattle.std.proofs.Common.{◌∙◌}
use Rattle.congruence.proofs.Besides.{beside_count}
use Rattle.congruence.proofs.beside.BesideTracked.count.Goals as goal

pub returns : goal.returns
returns c = c.min.ensures ∙ beside_count c.args.self.now.pictures.now c.args.self.now.notes.now
