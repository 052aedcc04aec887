use Rattle.theory.proofs.a_join_costs_one_class.Goals as goal
use Rattle.theory.proofs.Parts.{join_law, parts_law}

pub returns : goal.returns
returns c = record { join = join_law; parts = parts_law }
