use Rattle.theory.proofs.a_call_stands_where_its_sheet_has_it.Goals as goal
use Rattle.theory.proofs.Leaving.{stands_law}

pub returns : goal.returns
returns c = stands_law
