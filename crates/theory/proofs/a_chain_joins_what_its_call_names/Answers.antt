use Rattle.theory.proofs.a_chain_joins_what_its_call_names.Goals as goal
use Rattle.theory.proofs.Breaking.{writes_law, steps_law, no_steps_law}

pub returns : goal.returns
returns c = record { writes = writes_law; steps = steps_law; no_steps = no_steps_law }
