-- Records as an index stores them. Assumes nothing.
use Rattle.std.specs.Prelude.{◌≡◌, ℕ, ◌<◌, true, List, length, take, None, slice_index_or}
use Rattle.rows.specs.Row.{cells_of}
use Rattle.indexes.specs.declared.record.Record.{Record}
use Rattle.indexes.specs.Meaning.{Lead, held, same_signature}

-- the signature and the picture that a record stores
abbrev pub lead_of : Record → Lead
lead_of r = record { op = r.signature.op; row = cells_of r.signature.row; picture = r.picture }

-- the signature, leading to another picture
abbrev pub redirected : ℕ → Lead → Lead
redirected p e = record { op = e.op; row = e.row; picture = p }

-- the first of the leads with the signature o w stands at i
pub record Stands (es : List Lead) (o : ℕ) (w : List ℕ) (i : ℕ) : Type 0 where
  pub within : i < length es
  pub before : held (take i es) o w ≡ None
  pub here : (d : Lead) → same_signature (slice_index_or es i d).op (slice_index_or es i d).row o w ≡ true
