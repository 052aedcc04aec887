use Rattle.theory.proofs.a_chain_goes_step_by_step.Goals as goal
use Rattle.theory.proofs.Journals.{step_law}

pub returns : goal.returns
returns c = step_law
