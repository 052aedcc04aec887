-- The form of a line, which lines are valid, what a valid line says, and how any other is refused. A line is the list of its bytes.
-- Assumes nothing.
use Rattle.std.specs.Prelude.{◌≡◌, ℕ, ◌+◌, ◌-◌, ◌*◌, ◌<◌, ◌≤◌, ◌⊎◌, List, [], ◌∷◌, ◌++◌, map, length, take, All, slice_index_or}

-- c is the byte of a digit
abbrev pub Digit : ℕ → Type 0
Digit c = (48 ≤ c) × (c ≤ 57)

-- ds writes a number: one to five digits, without a leading zero except 0 itself
pub record Numeral (ds : List ℕ) : Type 0 where
  pub digits : All Digit ds
  pub some : 1 ≤ length ds
  pub short : length ds ≤ 5
  pub plain : slice_index_or ds 0 0 ≡ 48 → length ds ≡ 1

-- the number that digits in base ten write, where those before them write n
abbrev pub value_after : ℕ → List ℕ → ℕ
value_after n [] = n
value_after n (c ∷ cs) = value_after (n * 10 + (c - 48)) cs

-- the number that digits in base ten write
abbrev pub value : List ℕ → ℕ
value ds = value_after 0 ds

-- the numerals one after another, with one space before each
abbrev pub spaced : List (List ℕ) → List ℕ
spaced [] = []
spaced (d ∷ ds) = 32 ∷ (d ++ spaced ds)

-- n numbers may follow the letter c: an operation and 0 to 8 inputs after p, two numbers after s, d and m
abbrev pub Takes : ℕ → ℕ → Type 0
Takes c n = ((c ≡ 112) × (1 ≤ n) × (n ≤ 9)) ⊎ (((c ≡ 115) ⊎ ((c ≡ 100) ⊎ (c ≡ 109))) × (n ≡ 2))

-- the line bs is the letter c and then these numerals, as many as may follow it
pub record Formed (bs : List ℕ) (c : ℕ) (numerals : List (List ℕ)) : Type 0 where
  pub spells : bs ≡ c ∷ spaced numerals
  pub proper : All Numeral numerals
  pub takes : Takes c (length numerals)

-- bs is a line of the form
abbrev pub Valid : List ℕ → Type 0
Valid bs = (c : ℕ) × (numerals : List (List ℕ)) × Formed bs c numerals

-- some valid line begins with bs
abbrev pub Viable : List ℕ → Type 0
Viable bs = (rest : List ℕ) × Valid (bs ++ rest)

-- the line has not the form, and p is the place, from 1, of the first byte that no valid line could have there, or its length plus one where it ends
-- too early
pub record Spoiled (bs : List ℕ) (p : ℕ) : Type 0 where
  pub from : 1 ≤ p
  pub within : p ≤ length bs + 1
  pub fine : Viable (take (p - 1) bs)
  pub never : p ≤ length bs → Viable (take p bs) → ⊥
  pub early : p ≡ length bs + 1 → Valid bs → ⊥

-- the numeral writes a number of 16 bits
abbrev pub Narrow : List ℕ → Type 0
Narrow d = value d ≤ 65535

-- the line has the form, and p is the place of the first digit of its first number above 65,535
pub record TooWide (bs : List ℕ) (p : ℕ) : Type 0 where
  pub letter : ℕ
  pub before : List (List ℕ)
  pub wide : List ℕ
  pub after : List (List ℕ)
  pub line : Formed bs letter (before ++ (wide ∷ after))
  pub narrow : All Narrow before
  pub above : 65535 < value wide
  pub place : p ≡ 1 + (length (spaced before) + 2)

-- the line has the form, with the letter c, and its numbers are ns, each at most 65,535
pub record Says (bs : List ℕ) (c : ℕ) (ns : List ℕ) : Type 0 where
  pub numerals : List (List ℕ)
  pub line : Formed bs c numerals
  pub narrow : All Narrow numerals
  pub numbers : ns ≡ map value numerals

-- the line is refused with the number n and the detail p: with 7 where it has not the form, else with 8 where one of its numbers is too wide
abbrev pub Misread : List ℕ → ℕ → ℕ → Type 0
Misread bs n p = ((n ≡ 7) × Spoiled bs p) ⊎ ((n ≡ 8) × TooWide bs p)

-- a line says one thing at most, is refused with one number and one detail at most, and is never both read and refused
abbrev pub OneReading : Type 0
OneReading = ((bs : List ℕ) (c c' : ℕ) (ns ns' : List ℕ) → Says bs c ns → Says bs c' ns' → (c ≡ c') × (ns ≡ ns'))
    × ((bs : List ℕ) (n n' p p' : ℕ) → Misread bs n p → Misread bs n' p' → (n ≡ n') × (p ≡ p'))
    × ((bs : List ℕ) (c n p : ℕ) (ns : List ℕ) → Says bs c ns → Misread bs n p → ⊥)
