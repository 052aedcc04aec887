use Rattle.printouts.proofs.Unique.{one_reading}
use Rattle.printouts.proofs.form.a_line_has_one_reading.Goals as goal

pub returns : goal.returns
returns c = one_reading
