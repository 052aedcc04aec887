-- The calls of a sheet: where each may stand, its checks in their order, its answer and its refusals, and what it leaves. Assumes nothing.
use Rattle.std.specs.Prelude.{◌≡◌, ℕ, zero, suc, ◌+◌, ◌<◌, ◌≤◌, Bool, true, false, cond, ◌⊎◌, ◌↔◌, List, [], ◌∷◌, ◌++◌, length, All}
use Rattle.theory.specs.Sheet.{Picture, Entry, same, differ, Reading, On, Placed, Proper, Satisfies, Closure, Lowest, Classes, Broken, Applies}
use Rattle.theory.specs.Reasons.{Reason, Explains}

-- a call with its arguments, which are any whole numbers; of a step table only its number of cells matters
pub data Call : Type 0 where
  -- an operation and inputs
  add : ℕ → List ℕ → Call
  -- `same a b` or `differ a b`, and the cells of the step table
  tell : Entry → ℕ → Call
  must : ℕ → ℕ → Call
  -- two pictures, and the cells of the step table
  why : ℕ → ℕ → ℕ → Call
  lock reopen : Call
  value : ℕ → Call
  apply : ℕ → List ℕ → Call

-- why a call is refused
pub data Refusal : Type 0 where
  -- the step table has fewer than 1,024 cells
  few_cells : Refusal
  -- a number is 0 or above the count of pictures
  no_picture : Refusal
  -- there is no place for another picture, or for another entry
  full : Refusal
  -- no reading satisfies the entry and all entries taken: the broken entry, and the number of steps of the chain that was written
  contradiction : ℕ → ℕ → Refusal
  -- there are more than four inputs
  many_inputs : Refusal
  -- the two pictures are not in one class
  apart : Refusal

-- the number of each refusal
abbrev pub number : Refusal → ℕ
number few_cells = 1
number no_picture = 2
number full = 3
number (contradiction k n) = 4
number many_inputs = 5
number apart = 6

-- the detail of each refusal: the broken entry for a contradiction, else 0
abbrev pub detail : Refusal → ℕ
detail few_cells = 0
detail no_picture = 0
detail full = 0
detail (contradiction k n) = k
detail many_inputs = 0
detail apart = 0

-- what a call answers
pub data Answer : Type 0 where
  -- the number of the new picture, and the lowest number in its class
  added : ℕ → ℕ → Answer
  -- the number of a `same` entry, and its joins
  joined : ℕ → ℕ → Answer
  -- the number of a `differ` entry
  noted : ℕ → Answer
  -- yes or no
  told : Bool → Answer
  -- the number of steps of the chain that was written
  explained : ℕ → Answer
  -- the sheet in its other state
  turned : Answer
  -- a value
  valued : ℕ → Answer
  refused : Refusal → Answer

-- what a sheet holds
pub record Content : Type 0 where
  pub locked : Bool
  pub pictures : List Picture
  pub entries : List Entry

-- a sheet just put together
abbrev pub empty : Content
empty = record { locked = false; pictures = []; entries = [] }

-- the sheet with one picture more
abbrev pub with_picture : Content → ℕ → List ℕ → Content
with_picture s o is = record { locked = s.locked; pictures = s.pictures ++ (record { operation = o; inputs = is } ∷ []); entries = s.entries }

-- the sheet with one entry more
abbrev pub with_entry : Content → Entry → Content
with_entry s e = record { locked = s.locked; pictures = s.pictures; entries = s.entries ++ (e ∷ []) }

-- the sheet, open or locked
abbrev pub with_lock : Content → Bool → Content
with_lock s b = record { locked = b; pictures = s.pictures; entries = s.entries }

-- The call may stand on the sheet, open or locked as it is.
abbrev pub Stands : Content → Call → Type 0
Stands s (add o is) = s.locked ≡ false
Stands s (tell e cells) = s.locked ≡ false
Stands s (must a b) = Unit {0}
Stands s (why a b cells) = Unit {0}
Stands s lock = s.locked ≡ false
Stands s reopen = s.locked ≡ true
Stands s (value p) = s.locked ≡ true
Stands s (apply o xs) = s.locked ≡ true

-- One check: where `bad` holds the answer is this refusal, and else what the checks after it say.
abbrev pub Unless : Type 0 → Refusal → Answer → Type 0 → Type 0
Unless bad f r next = (bad × (r ≡ refused f)) ⊎ ((¬ bad) × next)

-- no reading satisfies the entry and all entries taken
abbrev pub Impossible : Content → Entry → Type 0
Impossible s e = (r : Reading) → ¬ Satisfies r s.pictures (s.entries ++ (e ∷ []))

-- the entry number k, from 1, is `differ l r`
abbrev pub Differs : ℕ → List Entry → ℕ → ℕ → Type 0
Differs k [] l r = ⊥
Differs zero (e ∷ E) l r = ⊥
Differs (suc zero) (same a b ∷ E) l r = ⊥
Differs (suc zero) (differ a b ∷ E) l r = (a ≡ l) × (b ≡ r)
Differs (suc (suc k)) (e ∷ E) l r = Differs (suc k) E l r

-- some reason chain of n steps joins the two pictures
abbrev pub Shown : List Picture → List Entry → ℕ → ℕ → ℕ → Type 0
Shown P E a b n = (T : List Reason) × Explains P E a b T × (n ≡ length T)

-- The answer to an entry that no reading satisfies with those taken: the broken entry, and the steps of a chain that joins its two pictures; the refused
-- entry counts with the number that it would have had.
abbrev pub Contradicted : List Picture → List Entry → Answer → Type 0
Contradicted P E r = (k n a b : ℕ) × Broken P E k × Differs k E a b × Shown P E a b n × (r ≡ refused (contradiction k n))

-- The answer to an entry that is taken: its number, and for `same` its joins, which are the classes before less the classes after.
abbrev pub Taken : List Picture → List Entry → Entry → Answer → Type 0
Taken P E (same a b) r = (j k : ℕ) × Classes P E (k + j) × Classes P (E ++ (same a b ∷ [])) k × (r ≡ joined (length E + 1) j)
Taken P E (differ a b) r = r ≡ noted (length E + 1)

-- r is the answer to the call on the sheet, whose keeper has the capacity cap.
abbrev pub Answers : ℕ → Content → Call → Answer → Type 0
Answers cap s (add o is) r =
    Unless (4 < length is) many_inputs r
    (Unless (¬ All (On s.pictures) is) no_picture r
    (Unless ((1024 ≤ length s.pictures) ⊎ (cap ≤ length s.pictures)) full r
    ((m : ℕ) × Lowest (with_picture s o is).pictures s.entries (length s.pictures + 1) m × (r ≡ added (length s.pictures + 1) m))))
Answers cap s (tell e cells) r =
    Unless (cells < 1024) few_cells r
    (Unless (¬ Placed s.pictures e) no_picture r
    (Unless (2048 ≤ length s.entries) full r
    ((Impossible s e × Contradicted s.pictures (s.entries ++ (e ∷ [])) r) ⊎ ((¬ Impossible s e) × Taken s.pictures s.entries e r))))
Answers cap s (must a b) r =
    Unless (¬ (On s.pictures a × On s.pictures b)) no_picture r
    ((Closure s.pictures s.entries a b × (r ≡ told true)) ⊎ ((¬ Closure s.pictures s.entries a b) × (r ≡ told false)))
Answers cap s (why a b cells) r =
    Unless (cells < 1024) few_cells r
    (Unless (¬ (On s.pictures a × On s.pictures b)) no_picture r
    (Unless (¬ Closure s.pictures s.entries a b) apart r
    ((n : ℕ) × Shown s.pictures s.entries a b n × (r ≡ explained n))))
Answers cap s lock r = r ≡ turned
Answers cap s reopen r = r ≡ turned
Answers cap s (value p) r =
    Unless (¬ On s.pictures p) no_picture r ((m : ℕ) × Lowest s.pictures s.entries p m × (r ≡ valued m))
Answers cap s (apply o xs) r =
    Unless (4 < length xs) many_inputs r ((v : ℕ) × Applies s.pictures s.entries o xs v × (r ≡ valued v))

-- whether an answer is a refusal
abbrev pub is_refused : Answer → Bool
is_refused (added n m) = false
is_refused (joined n j) = false
is_refused (noted n) = false
is_refused (told b) = false
is_refused (explained n) = false
is_refused turned = false
is_refused (valued v) = false
is_refused (refused f) = true

-- the steps of a chain that a refused call wrote
abbrev pub refusal_steps : Refusal → ℕ
refusal_steps few_cells = 0
refusal_steps no_picture = 0
refusal_steps full = 0
refusal_steps (contradiction k n) = n
refusal_steps many_inputs = 0
refusal_steps apart = 0

-- the steps of the chain that a call wrote, by its answer
abbrev pub steps : Answer → ℕ
steps (added n m) = 0
steps (joined n j) = 0
steps (noted n) = 0
steps (told b) = 0
steps (explained n) = n
steps turned = 0
steps (valued v) = 0
steps (refused f) = refusal_steps f

-- the number of the refusal that an answer is, and 0 for every other answer
abbrev pub refusal_number : Answer → ℕ
refusal_number (added n m) = 0
refusal_number (joined n j) = 0
refusal_number (noted n) = 0
refusal_number (told b) = 0
refusal_number (explained n) = 0
refusal_number turned = 0
refusal_number (valued v) = 0
refusal_number (refused f) = number f

-- the answer is a refusal with this number
abbrev pub Refuses : Answer → ℕ → Type 0
Refuses r k = refusal_number r ≡ k

-- The table of refusals: each number comes exactly when its row says, where the rows above it let the call pass.
abbrev pub Checked : ℕ → Content → Call → Answer → Type 0
Checked cap s (add o is) r =
    ((4 < length is) ↔ Refuses r 5)
    × (length is ≤ 4 → (¬ All (On s.pictures) is) ↔ Refuses r 2)
    × (length is ≤ 4 → All (On s.pictures) is → ((1024 ≤ length s.pictures) ⊎ (cap ≤ length s.pictures)) ↔ Refuses r 3)
Checked cap s (tell e cells) r =
    ((cells < 1024) ↔ Refuses r 1)
    × (1024 ≤ cells → (¬ Placed s.pictures e) ↔ Refuses r 2)
    × (1024 ≤ cells → Placed s.pictures e → (2048 ≤ length s.entries) ↔ Refuses r 3)
    × (1024 ≤ cells → Placed s.pictures e → length s.entries < 2048 → Impossible s e ↔ Refuses r 4)
Checked cap s (must a b) r = (¬ (On s.pictures a × On s.pictures b)) ↔ Refuses r 2
Checked cap s (why a b cells) r =
    ((cells < 1024) ↔ Refuses r 1)
    × (1024 ≤ cells → (¬ (On s.pictures a × On s.pictures b)) ↔ Refuses r 2)
    × (1024 ≤ cells → On s.pictures a → On s.pictures b → (¬ Closure s.pictures s.entries a b) ↔ Refuses r 6)
Checked cap s lock r = r ≡ turned
Checked cap s reopen r = r ≡ turned
Checked cap s (value p) r = (¬ On s.pictures p) ↔ Refuses r 2
Checked cap s (apply o xs) r = (4 < length xs) ↔ Refuses r 5

-- every answer follows the table
abbrev pub ChecksLaw : Type 0
ChecksLaw = (cap : ℕ) (s : Content) (c : Call) (r : Answer) → Answers cap s c r → Checked cap s c r

-- a refusal without the steps of its chain
abbrev pub refusal_apart : Refusal → Refusal
refusal_apart few_cells = few_cells
refusal_apart no_picture = no_picture
refusal_apart full = full
refusal_apart (contradiction k n) = contradiction k 0
refusal_apart many_inputs = many_inputs
refusal_apart apart = apart

-- an answer without the steps of its chain
abbrev pub apart_from_steps : Answer → Answer
apart_from_steps (added n m) = added n m
apart_from_steps (joined n j) = joined n j
apart_from_steps (noted n) = noted n
apart_from_steps (told b) = told b
apart_from_steps (explained n) = explained 0
apart_from_steps turned = turned
apart_from_steps (valued v) = valued v
apart_from_steps (refused f) = refused (refusal_apart f)

-- On a sheet each call has an answer, and two answers to it are the same apart from the steps of the chain.
abbrev pub AnswerLaw : Type 0
AnswerLaw =
    (cap : ℕ) (s : Content) → Proper s.pictures s.entries → (c : Call) →
    ((r : Answer) × Answers cap s c r)
    × ((r q : Answer) → Answers cap s c r → Answers cap s c q → apart_from_steps r ≡ apart_from_steps q)

-- two answers are the same apart from the steps of the chain, which the rules leave free
abbrev pub Alike : Answer → Answer → Type 0
Alike r q =
    (r ≡ q)
    ⊎ (((m n : ℕ) × (r ≡ explained m) × (q ≡ explained n))
    ⊎ ((k m n : ℕ) × (r ≡ refused (contradiction k m)) × (q ≡ refused (contradiction k n))))

-- So two answers to one call are alike.
abbrev pub AlikeLaw : Type 0
AlikeLaw = (cap : ℕ) (s : Content) → Proper s.pictures s.entries → (c : Call) (r q : Answer) → Answers cap s c r → Answers cap s c q → Alike r q

-- What the sheet holds after a call and its answer: add appends its picture, and the call of an entry appends the entry, unless they are refused; lock and
-- reopen turn the sheet; no other call changes anything.
abbrev pub after : Content → Call → Answer → Content
after s (add o is) r = cond (is_refused r) s (with_picture s o is)
after s (tell e cells) r = cond (is_refused r) s (with_entry s e)
after s (must a b) r = s
after s (why a b cells) r = s
after s lock r = with_lock s true
after s reopen r = with_lock s false
after s (value p) r = s
after s (apply o xs) r = s
