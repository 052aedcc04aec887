use Rattle.theory.proofs.must_is_what_every_reading_gives.Goals as goal
use Rattle.theory.proofs.Laws.{must_law}

pub returns : goal.returns
returns c = must_law
