use Rattle.theory.proofs.reopen_gives_back_what_was_locked.Goals as goal
use Rattle.theory.proofs.Leaving.{turned_law, locking_law}

pub returns : goal.returns
returns c = record { turned = turned_law; locking = locking_law }
