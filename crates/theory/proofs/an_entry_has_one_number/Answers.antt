use Rattle.theory.proofs.an_entry_has_one_number.Goals as goal
use Rattle.theory.proofs.Numbers.{numbers_law, next_number_law}

pub returns : goal.returns
returns c = record { numbers = numbers_law; next_number = next_number_law }
