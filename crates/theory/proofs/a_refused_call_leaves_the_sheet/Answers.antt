use Rattle.theory.proofs.a_refused_call_leaves_the_sheet.Goals as goal
use Rattle.theory.proofs.Leaving.{refusal_law, refused_law, appended_law}

pub returns : goal.returns
returns c = record { refusal = refusal_law; refused = refused_law; appended = appended_law }
