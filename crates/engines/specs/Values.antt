-- The values of a sheet, and the pictures that bear an operation with some of them. Assumes nothing.
use Rattle.std.specs.Prelude.{◌≡◌, ℕ, List, Some, None, Option}
use Rattle.std.specs.List.{AllZip}
use Rattle.theory.specs.Sheet.{Picture, Entry, On, operation, inputs, Closure, Lowest}

-- x is a value: a picture that is the lowest in its class
abbrev pub Value : List Picture → List Entry → ℕ → Type 0
Value P E x = Lowest P E x x

-- p has this operation, and its inputs are in the classes of these pictures, in order
abbrev pub Meets : List Picture → List Entry → ℕ → List ℕ → ℕ → Type 0
Meets P E o xs p = On P p × (operation P p ≡ o) × AllZip (Closure P E) (inputs P p) xs

-- the picture that is answered does so; where none is answered, none does
abbrev pub Bearer : List Picture → List Entry → ℕ → List ℕ → Option ℕ → Type 0
Bearer P E o xs (Some p) = Meets P E o xs p
Bearer P E o xs None = (p : ℕ) → ¬ Meets P E o xs p
