use Rattle.theory.proofs.asking_leaves_the_sheet.Goals as goal
use Rattle.theory.proofs.Leaving.{asked_law, same_answers_law}

pub returns : goal.returns
returns c = record { asked = asked_law; same_answers = same_answers_law }
