use Rattle.theory.proofs.a_class_has_one_lowest_number.Goals as goal
use Rattle.theory.proofs.Small.{lowest_law}

pub returns : goal.returns
returns c = lowest_law
