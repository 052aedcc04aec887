-- What holds while classes are joined: rs is the keeper's list of representatives, P the pictures, ps the pictures with what is noted of each, m the index's map,
-- J the journal. Assumes nothing.
use Rattle.std.specs.Prelude.{◌≡◌, ℕ, ◌+◌, ◌-◌, ◌<◌, ◌≤◌, ◌≢◌, ◌↔◌, List, [], ◌++◌, length, take, Some, All, Option, slice_index_or}
use Rattle.keepers.specs.Meaning.{Upto, Within, rep, class_count}
use Rattle.rows.specs.Row.{cells_of}
use Rattle.theory.specs.Sheet.{Picture, Entry, On, Ordered, Twins, Closure}
use Rattle.theory.specs.Reasons.{JoinedBy, Derivation}
use Rattle.theory.specs.Journal.{Tracks}
use Rattle.theory.specs.Parts.{Parts}
use Rattle.congruence.specs.declared.picture.Picture.{Picture as Held}
use Rattle.congruence.specs.declared.journal.Join.{Join}
use Rattle.congruence.specs.Drawn.{reasons}

-- two pictures have one representative
abbrev pub Together : (ℕ → ℕ) → ℕ → ℕ → Type 0
Together f x y = f x ≡ f y

-- m is the lowest number with the representative of p
pub record Lowest (rs : List ℕ) (p m : ℕ) : Type 0 where
  pub on : Within rs m
  pub one : rep rs m ≡ rep rs p
  pub least : (q : ℕ) → Within rs q → rep rs q ≡ rep rs p → m ≤ q

-- the keeper counts the pictures, there are at most 1,024, and each has at most four inputs, all earlier
pub record Ready (rs : List ℕ) (P : List Picture) : Type 0 where
  pub counted : length rs ≡ length P
  pub few : length P ≤ 1024
  pub ordered : Ordered P

-- each input of a picture is one of the pictures 1 to n
abbrev pub Fed : ℕ → Held → Type 0
Fed n p = All (Upto n) (cells_of p.inputs)

-- the keeper counts the pictures, there are at most 1,024, and their inputs are among them
pub record Counted (rs : List ℕ) (ps : List Held) : Type 0 where
  pub counted : length rs ≡ length ps
  pub few : length ps ≤ 1024
  pub fed : All (Fed (length ps)) ps

-- the index leads to pictures among 1 to n only
abbrev pub Inward : ℕ → (ℕ → List ℕ → Option ℕ) → Type 0
Inward n m = (o : ℕ) (w : List ℕ) (q : ℕ) → m o w ≡ Some q → Upto n q

-- the two pictures of a join are on the sheet, and in different classes
pub record Apart (rs : List ℕ) (j : Join) : Type 0 where
  pub left_on : Within rs j.left
  pub right_on : Within rs j.right
  pub apart : rep rs j.left ≢ rep rs j.right

-- there was room in the journal for each join that was made: it has at most as many joins as classes were lost
abbrev pub Booked : List ℕ → ℕ → Type 0
Booked rs joins = joins + class_count rs ≤ length rs

-- the least that twins can be put together with: it speaks of numbers only
pub record Holding (rs : List ℕ) (ps : List Held) (m : ℕ → List ℕ → Option ℕ) (J : List Join) : Type 0 where
  pub counted : Counted rs ps
  pub inward : Inward (length ps) m
  pub booked : Booked rs (length J)

-- from the classes rs and a journal of j joins to the classes rs' and a journal of j': each join cost one class
pub record Progress (rs rs' : List ℕ) (j j' : ℕ) : Type 0 where
  pub counted : length rs' ≡ length rs
  pub balance : j' + class_count rs' ≡ j + class_count rs
  pub longer : j ≤ j'

-- the journal tells the classes: its joins join what is together and nothing else, and each cost one class
pub record Books (rs : List ℕ) (P : List Picture) (J : List Join) : Type 0 where
  pub tracks : Tracks P (reasons J) (rep rs)
  pub few : length J ≤ length P
  pub classes : Parts (rep rs) (length P) (length P - length J)

-- the journal goes on from J to J', and stays a reason chain for all entries that Q allows
pub record Grows (P : List Picture) (Q : List Entry → Type 0) (J J' : List Join) : Type 0 where
  pub more : List Join
  pub is : J' ≡ J ++ more
  pub derives : (E : List Entry) → Q E → Derivation P E [] (reasons J) → Derivation P E [] (reasons J')

-- no join of the journal joins what those before it do
abbrev pub Fresh : List Picture → List Join → Type 0
Fresh P J = (i : ℕ) (d : Join) → i < length J → ¬ JoinedBy P (reasons (take i J)) (slice_index_or J i d).left (slice_index_or J i d).right

-- both pictures of a join are on the sheet
abbrev pub Placed : List Picture → Join → Type 0
Placed P j = On P j.left × On P j.right

-- whatever the entries
abbrev pub Any : List Entry → Type 0
Any E = Unit {0}

-- twins are together
abbrev pub Twinned : List Picture → (ℕ → ℕ) → Type 0
Twinned P f = (a b : ℕ) → On P a → On P b → Twins P (Together f) a b → f a ≡ f b

-- two pictures have one representative exactly when they are in one class of the closure
abbrev pub Closes : List Picture → List Entry → (ℕ → ℕ) → Type 0
Closes P E f = (x y : ℕ) → On P x → On P y → (f x ≡ f y) ↔ Closure P E x y
