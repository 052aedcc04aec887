use Rattle.engines.specs.Whole.{Whole}
use Rattle.tables.proofs.calls.Printed.fill_entries.Given as goal

abbrev pub invariant-loop : goal.invariant-loop
invariant-loop g l = Whole g.K.Keeper g.I.Index l.self.sheet
