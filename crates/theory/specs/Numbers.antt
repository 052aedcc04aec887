-- The numbers of entries. Assumes nothing.
use Rattle.std.specs.Prelude.{◌≡◌, ℕ, ◌+◌, ◌≤◌, false, ◌↔◌, List, ◌++◌, length}
use Rattle.theory.specs.Sheet.{Entry, same, differ}
use Rattle.theory.specs.Reasons.{Number}
use Rattle.theory.specs.Calls.{tell, Answer, added, joined, noted, told, explained, turned, valued, refused, Content, Differs, Answers, is_refused, after}

-- the entry number k, from 1, is this entry
abbrev pub At : ℕ → List Entry → Entry → Type 0
At k E (same l r) = Number k E l r
At k E (differ l r) = Differs k E l r

-- each number from 1 to the count of entries is the number of one entry and of no other, and no other number is an entry's
abbrev pub NumbersLaw : Type 0
NumbersLaw =
    (E : List Entry) (k : ℕ) →
    (((1 ≤ k) × (k ≤ length E)) ↔ ((e : Entry) × At k E e)) × ((d e : Entry) → At k E d → At k E e → d ≡ e)

-- the number that an answer gives an entry, and 0 for every other answer
abbrev pub entry_number : Answer → ℕ
entry_number (added n m) = 0
entry_number (joined n j) = n
entry_number (noted n) = n
entry_number (told b) = 0
entry_number (explained n) = 0
entry_number turned = 0
entry_number (valued v) = 0
entry_number (refused f) = 0

-- an entry that is taken gets the next number, stands there, and keeps it whatever entries follow
abbrev pub NextNumberLaw : Type 0
NextNumberLaw =
    (cap : ℕ) (s : Content) (e : Entry) (cells : ℕ) (r : Answer) → Answers cap s (tell e cells) r → is_refused r ≡ false →
    (entry_number r ≡ length s.entries + 1)
    × ((F : List Entry) → At (entry_number r) ((after s (tell e cells) r).entries ++ F) e)
