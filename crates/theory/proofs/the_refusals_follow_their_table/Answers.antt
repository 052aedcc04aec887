use Rattle.theory.proofs.the_refusals_follow_their_table.Goals as goal
use Rattle.theory.proofs.Checks.{checks_law}

pub returns : goal.returns
returns c = checks_law
