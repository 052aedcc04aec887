-- A walk along a chain that looks at a bounded number of cells. Assumes nothing.
use Rattle.std.specs.Prelude.{ℕ, zero, suc, ◌-◌, Bool, false, cond, List, length, Some, None, Ok, Err, Option, Result, ◌==◌, nat_lt, slice_index_or}
use Rattle.chains.specs.Chain.{after_cell}
use Rattle.chains.specs.declared.walks.Found.{Found}
use Rattle.chains.specs.declared.fault.ChainFault.{ChainFault}
use Rattle.chains.specs.declared.fault.ChainFault.TheVariants.{Broken}

-- what a walk comes to that stands at cell c, came from cell b, and may look at n cells more: the first cell that passes, none at the end of the
-- chain, or a chain that leaves the table or does not end
abbrev pub walk_of : ℕ → List ℕ → List Bool → ℕ → ℕ → Result (Option Found) ChainFault
walk_of zero links marks b c = cond (c == 0) (Ok None) (Err Broken)
walk_of (suc n) links marks b c =
    cond (c == 0) (Ok None) (cond (nat_lt (length links) c) (Err Broken) (cond (slice_index_or marks (c - 1) false) (Ok (Some (record { before = b; cell = c }))) (walk_of n links marks c (after_cell links c))))
