use Rattle.theory.proofs.the_further_examples_hold.Goals as goal
use Rattle.theory.proofs.Examples.{samples_law}

pub returns : goal.returns
returns c = samples_law
