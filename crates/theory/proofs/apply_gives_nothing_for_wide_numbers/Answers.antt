use Rattle.theory.proofs.apply_gives_nothing_for_wide_numbers.Goals as goal
use Rattle.theory.proofs.Small.{wide_law}

pub returns : goal.returns
returns c = wide_law
