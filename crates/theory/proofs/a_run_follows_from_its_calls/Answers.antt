use Rattle.theory.proofs.a_run_follows_from_its_calls.Goals as goal
use Rattle.theory.proofs.Runs.{same_calls_law, capacity_law}

pub returns : goal.returns
returns c = record { same_calls = same_calls_law; capacity = capacity_law }
