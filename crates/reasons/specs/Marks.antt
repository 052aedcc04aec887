-- Which joins of a journal two pictures need, and what is asked of a keeper to test them. Assumes nothing.
use Rattle.std.specs.Prelude.{◌≡◌, ℕ, Bool, List, []}
use Rattle.std.specs.List.{AllZip}
use Rattle.theory.specs.Sheet.{Picture, Entry, inputs}
use Rattle.theory.specs.Reasons.{Reason, by_entry, by_twins, left, right, JoinedBy, Explains}
use Rattle.theory.specs.Slices.{kept, Supported}
use Rattle.keepers.specs.declared.keeper.Outcome.{Outcome}
use Rattle.keepers.specs.Meaning.{rep, Within, Did}

-- The marked steps stand on one another, and join a and b.
abbrev pub Enough : List Picture → List Reason → ℕ → ℕ → List Bool → Type 0
Enough P T a b marks = Supported P [] marks T × JoinedBy P (kept marks T) a b

-- Where the steps are a reason chain that joins a and b, so are the marked ones.
abbrev pub Chosen : List Picture → List Reason → ℕ → ℕ → List Bool → Type 0
Chosen P T a b marks = (E : List Entry) → Explains P E a b T → Enough P T a b marks

-- x and y are pictures of one class
abbrev pub Alike : List ℕ → ℕ → ℕ → Type 0
Alike rs x y = Within rs x × Within rs y × (rep rs x ≡ rep rs y)

-- what a step stands on: the inputs of twins are in one class in pairs
abbrev pub Stands : List Picture → List ℕ → Reason → Type 0
Stands P rs (by_entry l r k) = Unit {0}
Stands P rs (by_twins l r) = AllZip (Alike rs) (inputs P l) (inputs P r)

-- the keeper has taken the step: it stood on the classes before, and its two pictures are in one class after
pub record Absorbed (P : List Picture) (s : Reason) (rs rs' : List ℕ) : Type 0 where
  pub stands : Stands P rs s
  pub on : Within rs (left s) × Within rs (right s)
  pub outcome : Outcome
  pub did : Did (left s) (right s) rs rs' outcome
