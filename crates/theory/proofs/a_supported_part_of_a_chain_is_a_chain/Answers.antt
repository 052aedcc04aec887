use Rattle.theory.proofs.a_supported_part_of_a_chain_is_a_chain.Goals as goal
use Rattle.theory.proofs.Slices.{slice_law}

pub returns : goal.returns
returns c = slice_law
