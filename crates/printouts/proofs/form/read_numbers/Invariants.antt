use Rattle.std.proofs.Common.{◌≤◌, length}
use Rattle.rows.specs.Row.{cells_of}
use Rattle.printouts.proofs.Sofar.{Sofar}
use Rattle.printouts.proofs.form.read_numbers.Given as goal

abbrev pub invariant-loop-rest : goal.invariant-loop-rest
invariant-loop-rest l = Sofar l.text l.rest (cells_of l.numbers) l.fits × (length (cells_of l.numbers) ≤ l.most) × (length l.rest ≤ length l.text)

abbrev pub decreases-loop-rest : goal.decreases-loop-rest
decreases-loop-rest l = length l.rest
