use Rattle.theory.proofs.there_is_one_number_of_classes.Goals as goal
use Rattle.theory.proofs.Small.{classes_law}

pub returns : goal.returns
returns c = classes_law
