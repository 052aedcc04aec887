use Rattle.theory.proofs.no_reading_means_a_broken_entry.Goals as goal
use Rattle.theory.proofs.Laws.{contradiction_law}

pub returns : goal.returns
returns c = contradiction_law
