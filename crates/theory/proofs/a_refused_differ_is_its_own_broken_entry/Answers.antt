use Rattle.theory.proofs.a_refused_differ_is_its_own_broken_entry.Goals as goal
use Rattle.theory.proofs.Breaking.{detail_law, no_detail_law}

pub returns : goal.returns
returns c = record { detail = detail_law; no_detail = no_detail_law }
