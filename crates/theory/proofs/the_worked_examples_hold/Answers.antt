use Rattle.theory.proofs.the_worked_examples_hold.Goals as goal
use Rattle.theory.proofs.Examples.{examples_law}

pub returns : goal.returns
returns c = examples_law
