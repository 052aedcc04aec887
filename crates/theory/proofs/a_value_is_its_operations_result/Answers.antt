use Rattle.theory.proofs.a_value_is_its_operations_result.Goals as goal
use Rattle.theory.proofs.Values.{value_law, short_law}

pub returns : goal.returns
returns c = record { value = value_law; short = short_law }
