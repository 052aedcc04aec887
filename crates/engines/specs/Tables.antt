-- What the calls leave in the step table. Assumes nothing.
use Rattle.std.specs.Prelude.{◌≡◌, ℕ, List, Ok, Err, Result}
use Rattle.theory.specs.Sheet.{Picture, Entry}
use Rattle.theory.specs.Calls.{Differs}
use Rattle.reasons.specs.declared.step.Step.{Step}
use Rattle.reasons.specs.Table.{Written}
use Rattle.engines.specs.declared.fault.SheetFault.{SheetFault}
use Rattle.engines.specs.declared.fault.SheetFault.TheVariants.{FewCells, NoPicture, Full, Contradiction, Inputs, Apart}

-- Of the calls of an entry only one that is refused as a contradiction writes to the step table: a reason chain that joins the pictures of the broken entry. E are the
-- entries with the one that is told.
abbrev pub ToldTable : {X : Type 0} → List Picture → List Entry → List Step → List Step → Result X SheetFault → Type 0
ToldTable P E before after (Ok x) = after ≡ before
ToldTable P E before after (Err (Contradiction c)) = (a b : ℕ) × Differs c.broken E a b × Written P E a b c.steps before after
ToldTable P E before after (Err FewCells) = after ≡ before
ToldTable P E before after (Err NoPicture) = after ≡ before
ToldTable P E before after (Err Full) = after ≡ before
ToldTable P E before after (Err Inputs) = after ≡ before
ToldTable P E before after (Err Apart) = after ≡ before

-- A why that is not refused writes a reason chain that joins the two pictures.
abbrev pub WhyTable : List Picture → List Entry → ℕ → ℕ → List Step → List Step → Result ℕ SheetFault → Type 0
WhyTable P E a b before after (Ok n) = Written P E a b n before after
WhyTable P E a b before after (Err f) = after ≡ before
