-- Pictures, entries, readings, and the congruence closure: what the answers of a sheet mean. Assumes nothing.
use Rattle.std.specs.Prelude.{◌≡◌, ℕ, zero, suc, ◌<◌, ◌≤◌, Bool, true, ◌≢◌, ◌⊎◌, List, [], ◌∷◌, map, length, All, slice_index_or}
use Rattle.std.specs.List.{AllZip}

-- PICTURES AND ENTRIES
-- A picture is an operation and a row of inputs, each the number of an earlier picture. One without inputs is a source.
pub record Picture : Type 0 where
  pub operation : ℕ
  pub inputs : List ℕ

-- An entry says of two pictures that they are the same, or that they differ.
pub data Entry : Type 0 where
  same differ : ℕ → ℕ → Entry

-- what stands at a number that is no picture's
abbrev pub blank : Picture
blank = record { operation = 0; inputs = [] }

-- Picture number p of a list: the first has number 1, and 0 is no picture.
abbrev pub picture : List Picture → ℕ → Picture
picture P p = slice_index_or (blank ∷ P) p blank

-- the operation of picture p
abbrev pub operation : List Picture → ℕ → ℕ
operation P p = (picture P p).operation

-- the row of inputs of picture p
abbrev pub inputs : List Picture → ℕ → List ℕ
inputs P p = (picture P p).inputs

-- p is the number of a picture of the list.
abbrev pub On : List Picture → ℕ → Type 0
On P p = (1 ≤ p) × (p ≤ length P)

-- Each picture has at most four inputs, and each input is an earlier picture.
abbrev pub Ordered : List Picture → Type 0
Ordered P = (p : ℕ) → On P p → (length (inputs P p) ≤ 4) × All (λ i. (1 ≤ i) × (i < p)) (inputs P p)

-- Both pictures of an entry are in the list.
abbrev pub Placed : List Picture → Entry → Type 0
Placed P (same a b) = On P a × On P b
Placed P (differ a b) = On P a × On P b

-- These pictures and entries can stand on a sheet.
abbrev pub Proper : List Picture → List Entry → Type 0
Proper P E = Ordered P × All (Placed P) E

-- READINGS
-- A reading gives each operation, for each list of numbers, a number. Longer lists than those of four numbers count for nothing, since no picture has more inputs.
abbrev pub Reading : Type 0
Reading = ℕ → List ℕ → ℕ

-- the value of picture p under a reading, its inputs being followed at most d deep
abbrev pub value_to : Reading → List Picture → ℕ → ℕ → ℕ
value_to r P zero p = 0
value_to r P (suc d) p = r (operation P p) (map (value_to r P d) (inputs P p))

-- The value of a picture is its operation's result for the list of its inputs' values. Inputs are earlier, so p levels suffice.
abbrev pub value : Reading → List Picture → ℕ → ℕ
value r P p = value_to r P p p

-- A reading satisfies `same a b` when the two values are equal, and `differ a b` when they are not.
abbrev pub Holds : Reading → List Picture → Entry → Type 0
Holds r P (same a b) = value r P a ≡ value r P b
Holds r P (differ a b) = value r P a ≢ value r P b

-- it satisfies each of the entries
abbrev pub Satisfies : Reading → List Picture → List Entry → Type 0
Satisfies r P E = All (Holds r P) E

-- THE CLOSURE
-- Two pictures are twins under a relation when they have the same operation, as many inputs, and their inputs are related first with first, second with
-- second and so on.
abbrev pub Twins : List Picture → (ℕ → ℕ → Type 0) → ℕ → ℕ → Type 0
Twins P R a b = (operation P a ≡ operation P b) × AllZip R (inputs P a) (inputs P b)

-- the relation that a test decides
abbrev pub Is : (ℕ → ℕ → Bool) → ℕ → ℕ → Type 0
Is R a b = R a b ≡ true

-- a relation holds a `same` entry when it relates its two pictures
abbrev pub Keeps : (ℕ → ℕ → Type 0) → Entry → Type 0
Keeps R (same a b) = R a b
Keeps R (differ a b) = Unit {0}

-- A congruence is an equivalence on the pictures that holds every `same` entry and puts twins together.
pub record Congruence (P : List Picture) (E : List Entry) (R : ℕ → ℕ → Bool) : Type 0 where
  pub reflexive : (a : ℕ) → On P a → Is R a a
  pub symmetric : (a b : ℕ) → On P a → On P b → Is R a b → Is R b a
  pub transitive : (a b c : ℕ) → On P a → On P b → On P c → Is R a b → Is R b c → Is R a c
  pub keeps : All (Keeps (Is R)) E
  pub twins : (a b : ℕ) → On P a → On P b → Twins P (Is R) a b → Is R a b

-- The closure is the least congruence: it relates two pictures exactly when every congruence does. Two pictures are in one class when it relates them.
abbrev pub Closure : List Picture → List Entry → ℕ → ℕ → Type 0
Closure P E a b = On P a × On P b × ((R : ℕ → ℕ → Bool) → Congruence P E R → Is R a b)

-- m is the lowest number in the class of p.
abbrev pub Lowest : List Picture → List Entry → ℕ → ℕ → Type 0
Lowest P E p m = Closure P E p m × ((q : ℕ) → Closure P E p q → m ≤ q)

-- k of the numbers 1 to n have the property Q
abbrev pub Counts : (ℕ → Type 0) → ℕ → ℕ → Type 0
Counts Q zero k = k ≡ 0
Counts Q (suc n) k = (Q (suc n) × ((j : ℕ) × (k ≡ suc j) × Counts Q n j)) ⊎ ((¬ Q (suc n)) × Counts Q n k)

-- There are k classes: k pictures are the lowest in their class.
abbrev pub Classes : List Picture → List Entry → ℕ → Type 0
Classes P E k = Counts (λ p. Lowest P E p p) (length P) k

-- the element number k, from 1, has the property Q, and none before it has
abbrev pub First : {X : Type 0} → (X → Type 0) → ℕ → List X → Type 0
First Q k [] = ⊥
First Q zero (x ∷ xs) = ⊥
First Q (suc zero) (x ∷ xs) = Q x
First Q (suc (suc k)) (x ∷ xs) = (¬ Q x) × First Q (suc k) xs

-- the closure breaks a `differ` entry when it joins its pictures
abbrev pub Breaks : List Picture → List Entry → Entry → Type 0
Breaks P E (same a b) = ⊥
Breaks P E (differ a b) = Closure P E a b

-- The broken entry is the lowest `differ` entry whose pictures the closure joins.
abbrev pub Broken : List Picture → List Entry → ℕ → Type 0
Broken P E k = First (Breaks P E) k E

-- THE LOCKED SHEET
-- p has this operation, and its inputs have these values in order; the value of a picture is the lowest number in its class
abbrev pub Bears : List Picture → List Entry → ℕ → List ℕ → ℕ → Type 0
Bears P E o xs p = On P p × (operation P p ≡ o) × AllZip (Lowest P E) (inputs P p) xs

-- apply answers v to the operation o and the numbers xs: the value of any picture that bears them, and 0 if none does.
abbrev pub Applies : List Picture → List Entry → ℕ → List ℕ → ℕ → Type 0
Applies P E o xs v = ((p : ℕ) → Bears P E o xs p → Lowest P E p v) × (((p : ℕ) → ¬ Bears P E o xs p) → v ≡ 0)

-- r is the reading of the locked sheet: for at most four numbers it gives what apply answers. A number above 65,535 is no picture's value, so it gives 0.
abbrev pub Locked : List Picture → List Entry → Reading → Type 0
Locked P E r = (o : ℕ) (xs : List ℕ) → length xs ≤ 4 → Applies P E o xs (r o xs)
