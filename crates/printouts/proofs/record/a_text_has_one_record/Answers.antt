use Rattle.printouts.proofs.Records.{one_record}
use Rattle.printouts.proofs.record.a_text_has_one_record.Goals as goal

pub returns : goal.returns
returns c = one_record
