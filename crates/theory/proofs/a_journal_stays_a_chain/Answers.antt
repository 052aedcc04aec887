use Rattle.theory.proofs.a_journal_stays_a_chain.Goals as goal
use Rattle.theory.proofs.Journals.{join_more_law, entry_more_law, picture_more_law, tracks_law, tracks_more_law}

pub returns : goal.returns
returns c = record { join_more = join_more_law; entry_more = entry_more_law; picture_more = picture_more_law; tracks = tracks_law; tracks_more = tracks_more_law }
