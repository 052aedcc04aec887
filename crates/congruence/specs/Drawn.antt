-- The pictures and joins that the code holds, as pictures and reasons of the definitions. Assumes nothing.
use Rattle.std.specs.Prelude.{ℕ, true, false, List, [], ◌∷◌, map, slice_index_or}
use Rattle.std.proofs.Common.{arith}
use Rattle.theory.specs.Sheet.{Picture}
use Rattle.theory.specs.Reasons.{Reason, by_entry, by_twins}
use Rattle.rows.specs.declared.row.Row.{Row}
use Rattle.rows.specs.Row.{cells_of}
use Rattle.congruence.specs.declared.picture.Picture.{Picture as Held}
use Rattle.congruence.specs.declared.beside.Note.{Note}
use Rattle.congruence.specs.declared.journal.Join.{Join}
use Rattle.congruence.specs.declared.journal.Cause.{Cause}
use Rattle.congruence.specs.declared.journal.Cause.TheVariants.{Entry, Twins}

-- the picture that is held
abbrev pub drawn : Held → Picture
drawn p = record { operation = p.op; inputs = cells_of p.inputs }

-- the pictures of a sheet
abbrev pub sheet : List Held → List Picture
sheet ps = map drawn ps

-- the inputs of the pictures, each row the very one that is held
abbrev pub inputs_held : List Held → List (Row 4)
inputs_held ps = map (λ (h : Held). h.inputs) ps

-- no picture: what is read behind the last one
abbrev pub nothing : Held
nothing = let none : Row 4 = record { cells = []; len = 0; short = omega arith } in record { inputs = none; row = none; op = 0; waits = false }

-- the picture at place i, counted from 0
abbrev pub held_at : List Held → ℕ → Held
held_at ps i = slice_index_or ps i nothing

-- a picture of which another row is noted, under which it waits
abbrev pub noting : Held → Row 4 → Held
noting p w = record { inputs = p.inputs; row = w; op = p.op; waits = true }

-- a picture that waits no more
abbrev pub resting : Held → Held
resting p = record { inputs = p.inputs; row = p.row; op = p.op; waits = false }

-- pictures, each with the note that stands beside it in place of its own; as many as have one
abbrev pub beside : List Held → List Note → List Held
beside [] ns = []
beside (p ∷ ps) [] = []
beside (p ∷ ps) (n ∷ ns) = record { inputs = p.inputs; row = n.row; op = p.op; waits = n.waits } ∷ beside ps ns

-- two pictures joined for this cause, as a step of a reason chain
abbrev pub reason : ℕ → ℕ → Cause → Reason
reason l r (Entry k) = by_entry l r k
reason l r Twins = by_twins l r

-- a join as a step
abbrev pub reason_of : Join → Reason
reason_of j = reason j.left j.right j.cause

-- the joins of a journal as steps
abbrev pub reasons : List Join → List Reason
reasons js = map reason_of js
