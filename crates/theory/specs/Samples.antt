-- More worked examples, with answers that the nine do not have. Assumes nothing.
use Rattle.std.specs.Prelude.{ℕ, true, false, List, [], ◌∷◌, All}
use Rattle.theory.specs.Sheet.{same, differ, Classes}
use Rattle.theory.specs.Calls.{Call, add, tell, must, why, lock, reopen, value, apply, Answer, added, joined, noted, told, explained, turned, valued, refused, few_cells, no_picture, full, many_inputs, apart, empty}
use Rattle.theory.specs.Runs.{Run, leaves}
use Rattle.theory.specs.Examples.{entry, broken}

-- A run on a sheet whose keeper has this capacity, with the number of classes that it leaves.
pub record Sample : Type 0 where
  pub capacity : ℕ
  pub log : List (Call × Answer)
  pub classes : ℕ

-- Six runs, each with what it shows.
unfoldable pub samples : List Sample
samples =
    -- three `differ` entries are broken at once: the detail is the lowest number, whatever its pictures
    record {
      capacity = 1024;
      log =
          (add 1 [], added 1 1) ∷ (add 2 [], added 2 2) ∷ (add 3 (1 ∷ []), added 3 3) ∷ (add 3 (2 ∷ []), added 4 4) ∷ (add 4 (3 ∷ []), added 5 5)
          ∷ (add 4 (4 ∷ []), added 6 6) ∷ (entry (differ 5 6), noted 1) ∷ (entry (differ 2 1), noted 2) ∷ (entry (differ 3 4), noted 3)
          ∷ (entry (same 2 1), broken 1 3) ∷ (must 6 5, told false) ∷ [];
      classes = 6;
    }
    -- `same` and `differ` share one numbering, and a refused entry uses up no number
    ∷ record {
      capacity = 1024;
      log =
          (add 1 [], added 1 1) ∷ (add 2 [], added 2 2) ∷ (add 3 [], added 3 3) ∷ (entry (same 1 2), joined 1 1) ∷ (entry (differ 2 3), noted 2)
          ∷ (entry (same 3 1), broken 2 2) ∷ (entry (differ 2 1), broken 3 1) ∷ (entry (same 2 1), joined 3 0) ∷ (entry (differ 3 1), noted 4) ∷ [];
      classes = 2;
    }
    -- why, with its answer and its refusals in their order; the first chain has an entry and twins, the second no step
    ∷ record {
      capacity = 1024;
      log =
          (add 1 [], added 1 1) ∷ (add 2 [], added 2 2) ∷ (add 3 (1 ∷ []), added 3 3) ∷ (add 3 (2 ∷ []), added 4 4) ∷ (why 3 4 1024, refused apart)
          ∷ (entry (same 1 2), joined 1 2) ∷ (why 3 4 1024, explained 2) ∷ (why 3 3 1024, explained 0) ∷ (why 1 5 1023, refused few_cells)
          ∷ (why 1 5 1024, refused no_picture) ∷ (why 0 1 1024, refused no_picture) ∷ (why 1 3 1024, refused apart) ∷ (lock, turned) ∷ (why 2 1 1024, explained 1)
          ∷ (why 2 1 0, refused few_cells) ∷ [];
      classes = 2;
    }
    -- the other refusals of an open sheet, in the order of the checks
    ∷ record {
      capacity = 1024;
      log =
          (add 1 (1 ∷ []), refused no_picture) ∷ (add 1 [], added 1 1) ∷ (add 1 (1 ∷ 1 ∷ 1 ∷ 1 ∷ 9 ∷ []), refused many_inputs)
          ∷ (add 1 (1 ∷ 0 ∷ []), refused no_picture) ∷ (add 1 (1 ∷ 1 ∷ 1 ∷ 1 ∷ []), added 2 2) ∷ (tell (same 1 3) 1023, refused few_cells)
          ∷ (tell (differ 1 1) 1023, refused few_cells) ∷ (entry (same 1 3), refused no_picture) ∷ (entry (differ 0 1), refused no_picture)
          ∷ (must 3 1, refused no_picture) ∷ (must 1 0, refused no_picture) ∷ (entry (same 2 1), joined 1 1) ∷ [];
      classes = 1;
    }
    -- a sheet that is locked, asked, opened again, told more and locked again; 2 is in the class of 1 then, and no picture's value
    ∷ record {
      capacity = 1024;
      log =
          (add 1 [], added 1 1) ∷ (add 2 (1 ∷ []), added 2 2) ∷ (lock, turned) ∷ (value 2, valued 2) ∷ (value 3, refused no_picture) ∷ (value 0, refused no_picture)
          ∷ (apply 2 (1 ∷ []), valued 2) ∷ (apply 2 (0 ∷ []), valued 0) ∷ (apply 2 (1 ∷ 1 ∷ 1 ∷ 1 ∷ 1 ∷ []), refused many_inputs) ∷ (must 1 2, told false)
          ∷ (reopen, turned) ∷ (add 2 (2 ∷ []), added 3 3) ∷ (entry (same 2 1), joined 1 2) ∷ (lock, turned) ∷ (value 3, valued 1)
          ∷ (apply 2 (1 ∷ []), valued 1) ∷ (apply 2 (2 ∷ []), valued 0) ∷ (must 3 1, told true) ∷ [];
      classes = 1;
    }
    -- a keeper with room for two pictures: a place is looked for after the inputs
    ∷ record {
      capacity = 2;
      log =
          (add 1 [], added 1 1) ∷ (add 2 (1 ∷ []), added 2 2) ∷ (add 1 (3 ∷ []), refused no_picture) ∷ (add 1 [], refused full) ∷ (entry (same 1 2), joined 1 1) ∷ [];
      classes = 1;
    }
    ∷ []

-- Each of them is a run with these answers, and leaves that number of classes.
abbrev pub SamplesLaw : Type 0
SamplesLaw = All (λ x. Run x.capacity x.log × (let s = leaves empty x.log in Classes s.pictures s.entries x.classes)) samples
