-- Reason chains: steps that join pictures, each by a `same` entry or because two pictures are twins. Assumes nothing.
use Rattle.std.specs.Prelude.{◌≡◌, ℕ, zero, suc, Bool, List, [], ◌∷◌, ◌++◌, All}
use Rattle.std.specs.List.{AllZip}
use Rattle.theory.specs.Sheet.{Picture, Entry, same, differ, operation, inputs, On, Proper, Is, Twins, Closure}

-- a step: of kind 1, a `same` entry by its two pictures and its number; of kind 2, two twins
pub data Reason : Type 0 where
  by_entry : ℕ → ℕ → ℕ → Reason
  by_twins : ℕ → ℕ → Reason

-- the left picture of a step
abbrev pub left : Reason → ℕ
left (by_entry l r k) = l
left (by_twins l r) = l

-- the right picture of a step
abbrev pub right : Reason → ℕ
right (by_entry l r k) = r
right (by_twins l r) = r

-- an equivalence on the pictures
pub record Equivalence (P : List Picture) (R : ℕ → ℕ → Bool) : Type 0 where
  pub reflexive : (a : ℕ) → On P a → Is R a a
  pub symmetric : (a b : ℕ) → On P a → On P b → Is R a b → Is R b a
  pub transitive : (a b c : ℕ) → On P a → On P b → On P c → Is R a b → Is R b c → Is R a c

-- a and b are joined by these steps: they are one picture, or linked by any number of them. That is, the least equivalence that holds each step relates
-- them.
abbrev pub JoinedBy : List Picture → List Reason → ℕ → ℕ → Type 0
JoinedBy P S a b = On P a × On P b × ((R : ℕ → ℕ → Bool) → Equivalence P R → All (λ s. Is R (left s) (right s)) S → Is R a b)

-- the entry number k, from 1, is `same l r`
abbrev pub Number : ℕ → List Entry → ℕ → ℕ → Type 0
Number k [] l r = ⊥
Number zero (e ∷ E) l r = ⊥
Number (suc zero) (same a b ∷ E) l r = (a ≡ l) × (b ≡ r)
Number (suc zero) (differ a b ∷ E) l r = ⊥
Number (suc (suc k)) (e ∷ E) l r = Number (suc k) E l r

-- The step is right after the steps S: it names a `same` entry with exactly these two pictures, left first; or two twins, whose inputs S joins in pairs.
abbrev pub Fits : List Picture → List Entry → List Reason → Reason → Type 0
Fits P E S (by_entry l r k) = Number k E l r
Fits P E S (by_twins l r) = On P l × On P r × Twins P (JoinedBy P S) l r

-- The steps are a reason chain, after the steps S: each is right after those before it, and none joins two pictures that are joined already.
abbrev pub Derivation : List Picture → List Entry → List Reason → List Reason → Type 0
Derivation P E S [] = Unit {0}
Derivation P E S (s ∷ T) = Fits P E S s × (¬ JoinedBy P S (left s) (right s)) × Derivation P E (s ∷ S) T

-- The steps are a reason chain that joins the two pictures.
abbrev pub Explains : List Picture → List Entry → ℕ → ℕ → List Reason → Type 0
Explains P E a b T = Derivation P E [] T × JoinedBy P T a b

-- a chain step by step: a step by an entry names a `same` entry with exactly its two pictures and its number; one by twins names two pictures with the same
-- operation, whose inputs the steps before it join in pairs; and no step joins two pictures that the steps before it join
abbrev pub StepLaw : Type 0
StepLaw =
    (P : List Picture) (E : List Entry) (S T : List Reason) (l r : ℕ) →
    ((k : ℕ) → Derivation P E [] (S ++ by_entry l r k ∷ T) → Number k E l r × (¬ JoinedBy P S l r))
    × (Derivation P E [] (S ++ by_twins l r ∷ T) →
    (operation P l ≡ operation P r) × AllZip (JoinedBy P S) (inputs P l) (inputs P r) × (¬ JoinedBy P S l r))

-- what a chain joins is in one class
abbrev pub DerivationLaw : Type 0
DerivationLaw =
    (P : List Picture) (E : List Entry) (a b : ℕ) (T : List Reason) → Explains P E a b T → Closure P E a b

-- two pictures of one class have a chain that joins them
abbrev pub ExplainsLaw : Type 0
ExplainsLaw =
    (P : List Picture) (E : List Entry) → Proper P E →
    (a b : ℕ) → Closure P E a b → (T : List Reason) × Explains P E a b T
