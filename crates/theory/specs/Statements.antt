-- The theorems about readings. Assumes nothing.
use Rattle.std.specs.Prelude.{◌≡◌, ℕ, ◌≤◌, ◌↔◌, List, map, length}
use Rattle.theory.specs.Sheet.{Picture, Entry, Reading, On, Ordered, Proper, value, operation, inputs, Satisfies, Closure, Lowest, Broken, Locked}

-- the value of a picture is its operation's result for the list of its inputs' values
abbrev pub ValueLaw : Type 0
ValueLaw = (P : List Picture) → Ordered P → (r : Reading) (p : ℕ) → On P p → value r P p ≡ r (operation P p) (map (value r P) (inputs P p))

-- the values of pictures follow from what a reading gives for lists of at most four numbers
abbrev pub ShortLaw : Type 0
ShortLaw =
    (P : List Picture) → Ordered P → (r s : Reading) → ((o : ℕ) (xs : List ℕ) → length xs ≤ 4 → r o xs ≡ s o xs) →
    (p : ℕ) → On P p → value r P p ≡ value s P p

-- each class has its lowest number
abbrev pub Known : List Picture → List Entry → Type 0
Known P E = (p : ℕ) → On P p → (m : ℕ) × Lowest P E p m

-- no reading satisfies the entries exactly when one of them is broken
abbrev pub ContradictionLaw : Type 0
ContradictionLaw =
    (P : List Picture) (E : List Entry) → Proper P E →
    ((r : Reading) → ¬ Satisfies r P E) ↔ ((k : ℕ) × Broken P E k)

-- some reading satisfies the entries
abbrev pub Satisfiable : List Picture → List Entry → Type 0
Satisfiable P E = (r : Reading) × Satisfies r P E

-- where some reading satisfies the entries, two pictures are in one class exactly when every reading that satisfies them gives the two one value
abbrev pub MustLaw : Type 0
MustLaw =
    (P : List Picture) (E : List Entry) → Proper P E → Satisfiable P E →
    (a b : ℕ) → On P a → On P b →
    Closure P E a b ↔ ((r : Reading) → Satisfies r P E → value r P a ≡ value r P b)

-- where some reading satisfies the entries, there is a reading of the locked sheet, and each gives each picture its value, satisfies every entry, and gives
-- two pictures one value only where every satisfying reading does
abbrev pub LockedLaw : Type 0
LockedLaw =
    (P : List Picture) (E : List Entry) → Proper P E → Satisfiable P E →
    ((r : Reading) × Locked P E r)
    × ((r : Reading) → Locked P E r →
    ((p : ℕ) → On P p → Lowest P E p (value r P p))
    × Satisfies r P E
    × ((a b : ℕ) → On P a → On P b → value r P a ≡ value r P b → (s : Reading) → Satisfies s P E → value s P a ≡ value s P b))
