use Rattle.theory.proofs.the_closure_is_the_least_congruence.Goals as goal
use Rattle.theory.proofs.Small.{closure_law}

pub returns : goal.returns
returns c = closure_law
