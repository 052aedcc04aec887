-- The refusals and answers of the calls, as those of the definitions. Assumes nothing.
use Rattle.std.specs.Prelude.{ℕ, Bool, Ok, Err, Result}
use Rattle.theory.specs.Calls.{Refusal, few_cells, no_picture, full, contradiction, many_inputs, apart, Answer, added, joined, noted, told, explained, valued, refused}
use Rattle.keepers.specs.declared.keeper.KeeperFault.{KeeperFault}
use Rattle.keepers.specs.declared.keeper.KeeperFault.TheVariants.{NoPicture as NoPictureKept, Full as FullKept}
use Rattle.engines.specs.declared.answer.Added.{Added}
use Rattle.engines.specs.declared.answer.Joined.{Joined}
use Rattle.engines.specs.declared.fault.SheetFault.{SheetFault}
use Rattle.engines.specs.declared.fault.SheetFault.TheVariants.{FewCells, NoPicture, Full, Contradiction, Inputs, Apart}

-- why a call is refused
abbrev pub refusal_of : SheetFault → Refusal
refusal_of FewCells = few_cells
refusal_of NoPicture = no_picture
refusal_of Full = full
refusal_of (Contradiction c) = contradiction c.broken c.steps
refusal_of Inputs = many_inputs
refusal_of Apart = apart

-- what the refusal of a keeper is for a sheet
abbrev pub fault_of : KeeperFault → SheetFault
fault_of NoPictureKept = NoPicture
fault_of FullKept = Full

-- the answer that a result is, where `says` tells what it is if it is no refusal
abbrev pub reply : {X : Type 0} → (X → Answer) → Result X SheetFault → Answer
reply says (Ok x) = says x
reply says (Err f) = refused (refusal_of f)

-- what add answers
abbrev pub add_reply : Result Added SheetFault → Answer
add_reply r = reply (λ a. added a.number a.lowest) r

-- what same answers
abbrev pub same_reply : Result Joined SheetFault → Answer
same_reply r = reply (λ j. joined j.entry j.joins) r

-- what differ answers
abbrev pub differ_reply : Result ℕ SheetFault → Answer
differ_reply r = reply noted r

-- what must answers
abbrev pub must_reply : Result Bool SheetFault → Answer
must_reply r = reply told r

-- what why answers
abbrev pub why_reply : Result ℕ SheetFault → Answer
why_reply r = reply explained r

-- what value and apply answer
abbrev pub value_reply : Result ℕ SheetFault → Answer
value_reply r = reply valued r
