-- What the parts of the reader find at the start of a text. Assumes nothing.
use Rattle.std.specs.Prelude.{◌≡◌, ℕ, ◌≤◌, ◌⊎◌, List, [], ◌∷◌, ◌++◌, length}
use Rattle.printouts.specs.Form.{Digit, Numeral, value, Takes}

-- a numeral that begins with the byte c has at most n digits: 0 stands alone
abbrev pub Longest : ℕ → ℕ → Type 0
Longest c n = ((c ≡ 48) × (n ≡ 1)) ⊎ ((49 ≤ c) × (c ≤ 57) × (n ≡ 5))

-- bs does not begin with a digit
abbrev pub Bare : List ℕ → Type 0
Bare [] = Unit {0}
Bare (c ∷ cs) = Digit c → ⊥

-- no longer numeral begins with ds where rest follows: ds is 0, or has five digits, or no digit comes next
abbrev pub Closed : List ℕ → List ℕ → Type 0
Closed ds rest = (ds ≡ 48 ∷ []) ⊎ ((length ds ≡ 5) ⊎ Bare rest)

-- bs begins with a numeral, as long as can be, that writes n, and rest follows it
pub record Took (bs : List ℕ) (n : ℕ) (rest : List ℕ) : Type 0 where
  pub ds : List ℕ
  pub cut : bs ≡ ds ++ rest
  pub proper : Numeral ds
  pub number : n ≡ value ds
  pub closed : Closed ds rest

-- from least to most numbers may follow the letter c, and no other count of them
pub record Bounds (c least most : ℕ) : Type 0 where
  pub to : (n : ℕ) → least ≤ n → n ≤ most → Takes c n
  pub from : (n : ℕ) → Takes c n → (least ≤ n) × (n ≤ most)
  pub order : least ≤ most
