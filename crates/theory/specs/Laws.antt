-- Small laws, which show that the definitions mean what they say. Assumes nothing.
use Rattle.std.specs.Prelude.{◌≡◌, ℕ, ◌<◌, Bool, ◌↔◌, List, [], ◌∷◌, ◌++◌, length, All, Contains}
use Rattle.theory.specs.Sheet.{Picture, Entry, differ, operation, inputs, On, Placed, Proper, Is, Keeps, Twins, Congruence, Closure, Lowest, Classes, Applies}
use Rattle.theory.specs.Calls.{add, added, Content, with_picture, Answers}

-- the closure is an equivalence, holds every `same` entry, puts twins together, and lies in every relation that does so
abbrev pub ClosureLaw : Type 0
ClosureLaw =
    (P : List Picture) (E : List Entry) → All (Placed P) E →
    ((a : ℕ) → On P a → Closure P E a a)
    × ((a b : ℕ) → Closure P E a b → Closure P E b a)
    × ((a b c : ℕ) → Closure P E a b → Closure P E b c → Closure P E a c)
    × All (Keeps (Closure P E)) E
    × ((a b : ℕ) → On P a → On P b → Twins P (Closure P E) a b → Closure P E a b)
    × ((R : ℕ → ℕ → Bool) → Congruence P E R → (a b : ℕ) → Closure P E a b → Is R a b)

-- a class has exactly one lowest number
abbrev pub LowestLaw : Type 0
LowestLaw =
    (P : List Picture) (E : List Entry) → Proper P E → (p : ℕ) → On P p →
    (m : ℕ) × Lowest P E p m × ((n : ℕ) → Lowest P E p n → n ≡ m)

-- there is exactly one number of classes
abbrev pub ClassesLaw : Type 0
ClassesLaw =
    (P : List Picture) (E : List Entry) → Proper P E →
    (k : ℕ) × Classes P E k × ((j : ℕ) → Classes P E j → j ≡ k)

-- apply answers 0 wherever one of its numbers is no picture's; a run has at most 1,024 pictures, so this holds of 0 and of every number of more than 16 bits
abbrev pub WideLaw : Type 0
WideLaw =
    (P : List Picture) (E : List Entry) (o : ℕ) (xs : List ℕ) (v : ℕ) → Applies P E o xs v → (x : ℕ) → Contains xs x → ¬ On P x → v ≡ 0

-- x is the value of a picture, the lowest number in its class
abbrev pub Valued : List Picture → List Entry → ℕ → Type 0
Valued P E x = (p : ℕ) × Lowest P E p x

-- apply answers 0 wherever one of its numbers is no picture's value; 0 and every number above the count are none, and so, since a run has at most 1,024 pictures,
-- is every number of more than 16 bits
abbrev pub NoValueLaw : Type 0
NoValueLaw =
    (P : List Picture) (E : List Entry) →
    ((o : ℕ) (xs : List ℕ) (v : ℕ) → Applies P E o xs v → (x : ℕ) → Contains xs x → ¬ Valued P E x → v ≡ 0)
    × ((x : ℕ) → ¬ On P x → ¬ Valued P E x)

-- a `differ` entry more leaves the closure as it was
abbrev pub DifferLaw : Type 0
DifferLaw =
    (P : List Picture) (E : List Entry) (c d a b : ℕ) → Closure P E a b ↔ Closure P (E ++ (differ c d ∷ [])) a b

-- one picture more leaves the closure on the earlier pictures as it was
abbrev pub AddLaw : Type 0
AddLaw =
    (P : List Picture) (x : Picture) (E : List Entry) → Proper P E → All (On P) x.inputs →
    (a b : ℕ) → On P a → On P b → Closure P E a b ↔ Closure (P ++ (x ∷ [])) E a b

-- two sources with one operation are twins under every relation, and pictures with different numbers of inputs under none
abbrev pub TwinsLaw : Type 0
TwinsLaw =
    (P : List Picture) (R : ℕ → ℕ → Bool) (a b : ℕ) →
    (operation P a ≡ operation P b → inputs P a ≡ [] → inputs P b ≡ [] → Twins P (Is R) a b)
    × (Twins P (Is R) a b → length (inputs P a) ≡ length (inputs P b))

-- a picture that is added and is a twin of one on the sheet joins its class at once, and the lowest number answered is below its own
abbrev pub TwinLaw : Type 0
TwinLaw =
    (cap : ℕ) (s : Content) (o : ℕ) (is : List ℕ) (n m : ℕ) → Answers cap s (add o is) (added n m) →
    let P = (with_picture s o is).pictures in
    (q : ℕ) → On s.pictures q → Twins P (Closure P s.entries) n q → Closure P s.entries n q × (m < n)
