use Rattle.std.proofs.Common.{◌≡◌, ◌^◌, ◌<◌, ◌≤◌, length, take, drop, All}
use Rattle.printouts.specs.Form.{Digit, value}
use Rattle.printouts.proofs.number.read_digits.Given as goal

abbrev pub invariant-loop : goal.invariant-loop
invariant-loop l = (l.most ≤ 5) × (l.counter ≤ length l.text) × (l.rest ≡ drop l.counter l.text) × All Digit (take l.counter l.text) × (l.value ≡ value (take l.counter l.text)) × (l.value < 10 ^ l.counter)
