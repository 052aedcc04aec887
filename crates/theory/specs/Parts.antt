-- The number of classes of a labelling, whichever labels it has, and what a join does to it. Assumes nothing.
use Rattle.std.specs.Prelude.{◌≡◌, ℕ, suc, ◌≤◌, ◌≢◌, ◌⊎◌, ◌↔◌, List, length}
use Rattle.theory.specs.Sheet.{Picture, Entry, On, Closure, Counts, Classes}

-- p is the lowest of the numbers 1 to n with its label
abbrev pub Leads : (ℕ → ℕ) → ℕ → ℕ → Type 0
Leads f n p = (q : ℕ) → 1 ≤ q → q ≤ n → f q ≡ f p → p ≤ q

-- the labels make k classes of the numbers 1 to n
abbrev pub Parts : (ℕ → ℕ) → ℕ → ℕ → Type 0
Parts f n k = Counts (Leads f n) n k

-- g is f with the classes of a and b made one, whichever label they get
pub record Joins (f g : ℕ → ℕ) (n a b : ℕ) : Type 0 where
  pub keeps : (x y : ℕ) → 1 ≤ x → x ≤ n → 1 ≤ y → y ≤ n → f x ≡ f y → g x ≡ g y
  pub meets : g a ≡ g b
  pub only : (x y : ℕ) → 1 ≤ x → x ≤ n → 1 ≤ y → y ≤ n → g x ≡ g y →
      (f x ≡ f y) ⊎ (((f x ≡ f a) × (f y ≡ f b)) ⊎ ((f x ≡ f b) × (f y ≡ f a)))

-- a join of two classes leaves one class fewer
abbrev pub JoinLaw : Type 0
JoinLaw =
    (f g : ℕ → ℕ) (n a b : ℕ) → 1 ≤ a → a ≤ n → 1 ≤ b → b ≤ n → f a ≢ f b → Joins f g n a b →
    (k : ℕ) → Parts g n k → Parts f n (suc k) × ((m : ℕ) → Parts f n m → m ≡ suc k)

-- where the labels tell the closure, their classes are those of the closure
abbrev pub PartsLaw : Type 0
PartsLaw =
    (P : List Picture) (E : List Entry) (f : ℕ → ℕ) →
    ((a b : ℕ) → On P a → On P b → (f a ≡ f b) ↔ Closure P E a b) →
    (k : ℕ) → Parts f (length P) k ↔ Classes P E k
