use Rattle.theory.proofs.a_chain_is_shorter_than_the_sheet.Goals as goal
use Rattle.theory.proofs.Few.{few_law}

pub returns : goal.returns
returns c = few_law
