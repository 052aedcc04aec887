use Rattle.theory.proofs.a_run_goes_on_call_by_call.Goals as goal
use Rattle.theory.proofs.Leaving.{call_more_law}

pub returns : goal.returns
returns c = call_more_law
