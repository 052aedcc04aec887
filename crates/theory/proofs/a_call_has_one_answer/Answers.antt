use Rattle.theory.proofs.a_call_has_one_answer.Goals as goal
use Rattle.theory.proofs.Answering.{answer_law, alike_law}

pub returns : goal.returns
returns c = record { answer = answer_law; alike = alike_law }
