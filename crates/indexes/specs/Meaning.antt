-- What a signature index means: the signatures that it holds, each once, with the picture to which each leads; and when enter is refused.
-- Assumes nothing.
use Rattle.std.specs.Prelude.{ℕ, Bool, true, false, cond, not, ◌&&◌, List, [], ◌∷◌, length, is_some, Some, None, Ok, Err, Option, Result, ◌==◌, nat_le, nat_lt}
use Rattle.indexes.specs.declared.index.IndexFault.{IndexFault}
use Rattle.indexes.specs.declared.index.IndexFault.TheVariants.{Inputs, Full}

-- a signature, which is an operation and a row of representatives, and the picture to which it leads
pub record Lead : Type 0 where
  pub op : ℕ
  pub row : List ℕ
  pub picture : ℕ

-- two rows are one: as long as each other, and equal place by place
abbrev pub same_row : List ℕ → List ℕ → Bool
same_row [] [] = true
same_row [] (y ∷ ys) = false
same_row (x ∷ xs) [] = false
same_row (x ∷ xs) (y ∷ ys) = x == y && same_row xs ys

-- two signatures are one
abbrev pub same_signature : ℕ → List ℕ → ℕ → List ℕ → Bool
same_signature o w q v = o == q && same_row w v

-- the picture to which the signature o w leads
abbrev pub held : List Lead → ℕ → List ℕ → Option ℕ
held [] o w = None
held (e ∷ es) o w = cond (same_signature e.op e.row o w) (Some e.picture) (held es o w)

-- no signature stands there twice
abbrev pub apart : List Lead → Bool
apart [] = true
apart (e ∷ es) = not (is_some (held es e.op e.row)) && apart es

-- the map f, but that the signature o w leads to p, or to nothing
abbrev pub leading : (ℕ → List ℕ → Option ℕ) → ℕ → List ℕ → Option ℕ → ℕ → List ℕ → Option ℕ
leading f o w p q v = cond (same_signature o w q v) p (f q v)

-- the number of a refusal
abbrev pub fault_number : IndexFault → ℕ
fault_number Inputs = 5
fault_number Full = 3

-- why a call was refused, if it was
abbrev pub refused : {X : Type 0} → Result X IndexFault → Option IndexFault
refused (Ok x) = None
refused (Err f) = Some f

-- enter is refused with 5 where the signature has more than four inputs, then with 3 exactly where 1,024 others are held and this one is not
abbrev pub enter_fault : List Lead → ℕ → List ℕ → Option IndexFault
enter_fault es o w = cond (nat_lt 4 (length w)) (Some Inputs) (cond (nat_le 1024 (length es) && not (is_some (held es o w))) (Some Full) None)
