-- Worked examples: runs on a sheet whose keeper has the capacity 1,024, with the answers that the rules give. Assumes nothing.
use Rattle.std.specs.Prelude.{ℕ, true, false, List, [], ◌∷◌, All}
use Rattle.theory.specs.Sheet.{Entry, same, differ, Classes}
use Rattle.theory.specs.Calls.{Call, add, tell, must, lock, value, apply, Answer, added, joined, noted, told, turned, valued, refused, contradiction, empty}
use Rattle.theory.specs.Runs.{Run, leaves}

-- an entry told with a step table of 1,024 cells
abbrev pub entry : Entry → Call
entry e = tell e 1024

-- the answer to an entry that is refused: the broken entry, and the steps of the chain
abbrev pub broken : ℕ → ℕ → Answer
broken k n = refused (contradiction k n)

-- A run with the number of classes that it leaves.
pub record Example : Type 0 where
  pub log : List (Call × Answer)
  pub classes : ℕ

-- The nine examples. In the eighth no chain can have a step, since a chain has fewer steps than there are pictures.
unfoldable pub examples : List Example
examples =
    record {
      log =
          (add 1 [], added 1 1) ∷ (add 2 (1 ∷ []), added 2 2) ∷ (add 2 (2 ∷ []), added 3 3) ∷ (add 3 (3 ∷ 1 ∷ []), added 4 4) ∷ (add 3 (1 ∷ 1 ∷ []), added 5 5)
          ∷ (entry (same 2 1), joined 1 3) ∷ (entry (differ 4 5), broken 2 3) ∷ (must 4 5, told true) ∷ [];
      classes = 2;
    }
    ∷ record { log = (add 9 [], added 1 1) ∷ (add 9 [], added 2 1) ∷ []; classes = 1 }
    ∷ record { log = (add 9 [], added 1 1) ∷ (add 9 (1 ∷ []), added 2 2) ∷ (must 1 2, told false) ∷ []; classes = 2 }
    ∷ record {
      log =
          (add 1 [], added 1 1) ∷ (add 2 [], added 2 2) ∷ (add 3 (1 ∷ 2 ∷ []), added 3 3) ∷ (add 3 (2 ∷ 1 ∷ []), added 4 4) ∷ (must 3 4, told false)
          ∷ (entry (same 1 2), joined 1 2) ∷ (must 3 4, told true) ∷ [];
      classes = 2;
    }
    ∷ record {
      log =
          (add 1 [], added 1 1) ∷ (add 2 [], added 2 2) ∷ (add 3 (1 ∷ []), added 3 3) ∷ (add 3 (2 ∷ []), added 4 4) ∷ (entry (same 3 4), joined 1 1)
          ∷ (must 1 2, told false) ∷ (lock, turned) ∷ (value 4, valued 3) ∷ (apply 3 (2 ∷ []), valued 3) ∷ (apply 3 (3 ∷ []), valued 0) ∷ [];
      classes = 3;
    }
    ∷ record {
      log =
          (add 1 [], added 1 1) ∷ (add 2 [], added 2 2) ∷ (add 3 (1 ∷ []), added 3 3) ∷ (add 3 (2 ∷ []), added 4 4) ∷ (entry (differ 3 4), noted 1)
          ∷ (entry (same 1 2), broken 1 2) ∷ (must 1 2, told false) ∷ [];
      classes = 4;
    }
    ∷ record {
      log =
          (add 1 [], added 1 1) ∷ (add 2 (1 ∷ []), added 2 2) ∷ (add 2 (2 ∷ []), added 3 3) ∷ (add 2 (3 ∷ []), added 4 4) ∷ (add 2 (4 ∷ []), added 5 5)
          ∷ (add 2 (5 ∷ []), added 6 6) ∷ (entry (same 4 1), joined 1 3) ∷ (entry (same 6 1), joined 2 2) ∷ (must 2 1, told true) ∷ [];
      classes = 1;
    }
    ∷ record { log = (add 1 [], added 1 1) ∷ (entry (differ 1 1), broken 1 0) ∷ []; classes = 1 }
    ∷ record {
      log =
          (add 1 [], added 1 1) ∷ (add 2 [], added 2 2) ∷ (entry (same 1 2), joined 1 1) ∷ (add 3 (1 ∷ []), added 3 3) ∷ (add 3 (2 ∷ []), added 4 3) ∷ [];
      classes = 2;
    }
    ∷ []

-- Each example is a run with these answers, and leaves that number of classes.
abbrev pub ExamplesLaw : Type 0
ExamplesLaw = All (λ x. Run 1024 x.log × (let s = leaves empty x.log in Classes s.pictures s.entries x.classes)) examples
