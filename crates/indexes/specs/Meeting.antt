-- What a look-up that enters what it does not find comes to. Assumes nothing.
use Rattle.std.specs.Prelude.{◌≡◌, ℕ, List, Some, None, Ok, Err, Option, Result}
use Rattle.indexes.specs.declared.index.IndexFault.{IndexFault}
use Rattle.indexes.specs.Meaning.{Lead, held, leading, enter_fault}

-- the two maps are one
abbrev pub SameMap : List Lead → List Lead → Type 0
SameMap es es' = (q : ℕ) (v : List ℕ) → held es' q v ≡ held es q v

-- the signature o w leads to the picture that is answered, and nothing changes; or it led to none, and leads to p now; or it led to none, and enter is
-- refused
abbrev pub Met : ℕ → List ℕ → ℕ → List Lead → List Lead → Result (Option ℕ) IndexFault → Type 0
Met o w p es es' (Ok (Some q)) = (held es o w ≡ Some q) × SameMap es es'
Met o w p es es' (Ok None) = (held es o w ≡ None) × ((q : ℕ) (v : List ℕ) → held es' q v ≡ leading (held es) o w (Some p) q v)
Met o w p es es' (Err f) = (held es o w ≡ None) × (enter_fault es o w ≡ Some f) × SameMap es es'
