use Rattle.theory.proofs.apply_gives_nothing_for_what_is_no_value.Goals as goal
use Rattle.theory.proofs.Small.{no_value_law}

pub returns : goal.returns
returns c = no_value_law
