use Rattle.theory.proofs.a_chain_proves_what_it_joins.Goals as goal
use Rattle.theory.proofs.Reasons.{chain_law}

pub returns : goal.returns
returns c = chain_law
