use Rattle.theory.proofs.the_broken_entry_is_the_lowest.Goals as goal
use Rattle.theory.proofs.Breaking.{broken_law}

pub returns : goal.returns
returns c = broken_law
