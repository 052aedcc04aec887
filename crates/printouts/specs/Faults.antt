-- The numbers and details of a line's refusals, and how one is printed. Assumes nothing.
use Rattle.std.specs.Prelude.{ℕ, List, ◌++◌, codes, decimal}
use Rattle.theory.specs.Calls.{number, detail}
use Rattle.engines.specs.Faults.{refusal_of}
use Rattle.printouts.specs.declared.fault.NumberFault.{NumberFault}
use Rattle.printouts.specs.declared.fault.NumberFault.TheVariants.{Shape, Wide}
use Rattle.printouts.specs.declared.fault.LineFault.{LineFault}
use Rattle.printouts.specs.declared.fault.LineFault.TheVariants.{Form, Number, Sheet}

-- the number of a number's refusal
abbrev pub number_fault_number : NumberFault → ℕ
number_fault_number (Shape p) = 7
number_fault_number (Wide p) = 8

-- the detail of a number's refusal: its place in the line
abbrev pub number_fault_detail : NumberFault → ℕ
number_fault_detail (Shape p) = p
number_fault_detail (Wide p) = p

-- the number of a line's refusal
abbrev pub line_fault_number : LineFault → ℕ
line_fault_number (Form p) = 7
line_fault_number (Number f) = number_fault_number f
line_fault_number (Sheet f) = number (refusal_of f)

-- the detail of a line's refusal: a place in the line, or what the call gives
abbrev pub line_fault_detail : LineFault → ℕ
line_fault_detail (Form p) = p
line_fault_detail (Number f) = number_fault_detail f
line_fault_detail (Sheet f) = detail (refusal_of f)

-- a refusal as it is printed
abbrev pub fault_text : LineFault → List ℕ
fault_text f = codes "no " ++ (decimal (line_fault_number f) ++ (codes " " ++ decimal (line_fault_detail f)))
