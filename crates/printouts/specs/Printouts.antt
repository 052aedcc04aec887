-- The lines of a list, and what is printed of them: its record. Assumes nothing.
use Rattle.std.specs.Prelude.{◌≡◌, ℕ, ◌<◌, ◌≤◌, cond, List, [], ◌∷◌, ◌++◌, length, codes, decimal, ◌==◌}
use Rattle.theory.specs.Sheet.{Classes}
use Rattle.theory.specs.Calls.{Content, empty}
use Rattle.printouts.specs.Replies.{Outcome, Reply, Did, Replies, reply_text}

-- the lines with the byte b in front of the first
abbrev pub glue : ℕ → List (List ℕ) → List (List ℕ)
glue b [] = (b ∷ []) ∷ []
glue b (l ∷ ls) = (b ∷ l) ∷ ls

-- the lines of a text: a line ends with byte 10, and the last may lack it if it has a byte
abbrev pub lines : List ℕ → List (List ℕ)
lines [] = []
lines (b ∷ bs) = cond (b == 10) ([] ∷ lines bs) (glue b (lines bs))

module _ {S : Type 0} (does : S → ℕ → List ℕ → Outcome → S → Type 0) where
  -- the lines lead from the sheet s to s' and print `out`: for each its reply, ended with byte 10
  abbrev pub Prints : S → List (List ℕ) → List ℕ → S → Type 0
  Prints s [] out s' = (out ≡ []) × (s' ≡ s)
  Prints s (l ∷ ls) out s' = (r : Reply) × (m : S) × (rest : List ℕ) × Replies does s l r m × (out ≡ reply_text r ++ (10 ∷ rest)) × Prints m ls rest s'

-- the record of a text that is short enough, where the keeper has the capacity cap: a sheet begins empty, each line is replied to in order, and the
-- number of classes comes last
pub record Lists (cap : ℕ) (text out : List ℕ) : Type 0 where
  pub end : Content
  pub body : List ℕ
  pub classes : ℕ
  pub each : Prints (Did cap) empty (lines text) body end
  pub counted : Classes end.pictures end.entries classes
  pub whole : out ≡ body ++ (codes "classes " ++ (decimal classes ++ (10 ∷ [])))

-- The record of any text: one above 65,536 bytes is refused with 9, and nothing else is printed.
abbrev pub Printout : ℕ → List ℕ → List ℕ → Type 0
Printout cap text out = (length text ≤ 65536 → Lists cap text out) × (65536 < length text → out ≡ codes "no 9 0\n")

-- a text has at most one record for each capacity
abbrev pub OneRecord : Type 0
OneRecord = (cap : ℕ) (text out out' : List ℕ) → Printout cap text out → Printout cap text out' → out ≡ out'
