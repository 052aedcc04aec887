use Rattle.theory.proofs.runs_keep_the_laws.Goals as goal
use Rattle.theory.proofs.Runs.{run_law}

pub returns : goal.returns
returns c = run_law
