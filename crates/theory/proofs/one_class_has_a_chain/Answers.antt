use Rattle.theory.proofs.one_class_has_a_chain.Goals as goal
use Rattle.theory.proofs.Settled.{explains_law}

pub returns : goal.returns
returns c = explains_law
