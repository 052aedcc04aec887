use Rattle.theory.proofs.the_locked_reading_shows_nothing_more.Goals as goal
use Rattle.theory.proofs.Laws.{locked_law}

pub returns : goal.returns
returns c = locked_law
