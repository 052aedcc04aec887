use Rattle.theory.proofs.a_twin_joins_its_class_at_once.Goals as goal
use Rattle.theory.proofs.Adding.{twins_law, twin_law}

pub returns : goal.returns
returns c = record { twins = twins_law; twin = twin_law }
