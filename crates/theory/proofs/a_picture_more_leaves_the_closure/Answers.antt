use Rattle.theory.proofs.a_picture_more_leaves_the_closure.Goals as goal
use Rattle.theory.proofs.Growing.{add_law}
use Rattle.theory.proofs.Small.{differ_law}

pub returns : goal.returns
returns c = record { add = add_law; differ = differ_law }
