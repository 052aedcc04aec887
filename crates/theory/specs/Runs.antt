-- Runs: rows of calls with their answers on one sheet, the pictures and entries that follow from them, and the law over runs. Assumes nothing.
use Rattle.std.specs.Prelude.{◌≡◌, ℕ, ◌-◌, ◌<◌, ◌≤◌, true, ◌↔◌, List, [], ◌∷◌, length, All}
use Rattle.std.specs.List.{AllZip}
use Rattle.theory.specs.Sheet.{Entry, Reading, On, Placed, Proper, value, Satisfies}
use Rattle.theory.specs.Calls.{Call, tell, must, apply, Answer, told, valued, refused, full, contradiction, Content, empty, Stands, Answers, Alike, Impossible, steps, with_entry, after}
use Rattle.theory.specs.Calls as calls

-- A row of calls with their answers, the first first, can be made on this sheet: each may stand where it stands, and has its answer.
abbrev pub Goes : ℕ → Content → List (Call × Answer) → Type 0
Goes cap s [] = Unit {0}
Goes cap s (c ∷ cs) = Stands s c.0 × Answers cap s c.0 c.1 × Goes cap (after s c.0 c.1) cs

-- what the sheet holds after a row of calls
abbrev pub leaves : Content → List (Call × Answer) → Content
leaves s [] = s
leaves s (c ∷ cs) = leaves (after s c.0 c.1) cs

-- A run begins with a sheet just put together.
abbrev pub Run : ℕ → List (Call × Answer) → Type 0
Run cap log = Goes cap empty log

-- the answer is a refusal as a contradiction
abbrev pub Refuted : Answer → Type 0
Refuted r = (k n : ℕ) × (r ≡ refused (contradiction k n))

-- (a) The next entry, if it passes its other checks, is refused as a contradiction exactly when no reading satisfies it together with all entries taken; and
-- otherwise it is taken.
abbrev pub NextEntry : ℕ → Content → Type 0
NextEntry cap s =
    (e : Entry) (cells : ℕ) → 1024 ≤ cells → Placed s.pictures e → length s.entries < 2048 →
    (r : Answer) → Answers cap s (tell e cells) r → (Refuted r ↔ Impossible s e) × ((¬ Impossible s e) → after s (tell e cells) r ≡ with_entry s e)

-- (b) must says yes to two pictures on the sheet exactly when every reading that satisfies all entries taken gives them the same value.
abbrev pub MustSays : ℕ → Content → Type 0
MustSays cap s =
    (a b : ℕ) → On s.pictures a → On s.pictures b → (r : Answer) → Answers cap s (must a b) r →
    (r ≡ told true) ↔ ((q : Reading) → Satisfies q s.pictures s.entries → value q s.pictures a ≡ value q s.pictures b)

-- q is the reading that apply gives
abbrev pub ReadOff : ℕ → Content → Reading → Type 0
ReadOff cap s q = (o : ℕ) (xs : List ℕ) → length xs ≤ 4 → Answers cap s (apply o xs) (valued (q o xs))

-- (c) There is a reading that apply gives; and each gives each picture what value answers, satisfies every entry taken, and gives two pictures one value only where every
-- satisfying reading does.
abbrev pub LockedShows : ℕ → Content → Type 0
LockedShows cap s =
    ((q : Reading) × ReadOff cap s q)
    × ((q : Reading) → ReadOff cap s q →
    ((p : ℕ) → On s.pictures p → Answers cap s (calls.value p) (valued (value q s.pictures p)))
    × Satisfies q s.pictures s.entries
    × ((a b : ℕ) → On s.pictures a → On s.pictures b → value q s.pictures a ≡ value q s.pictures b →
    (t : Reading) → Satisfies t s.pictures s.entries → value t s.pictures a ≡ value t s.pictures b))

-- (d) A chain that a call writes has fewer steps than there are pictures.
abbrev pub FewSteps : ℕ → Content → Type 0
FewSteps cap s = (c : Call) (r : Answer) → Answers cap s c r → steps r ≤ length s.pictures - 1

-- What the sheet holds is within the limits; so 1,024 cells always suffice for a chain.
abbrev pub Within : ℕ → Content → Type 0
Within cap s = (length s.pictures ≤ 1024) × (length s.pictures ≤ cap) × (length s.entries ≤ 2048)

-- Whatever the calls of a run were, however often refused: what it leaves can stand on a sheet and is within the limits, some reading satisfies the entries
-- taken, and (a), (b), (c) and (d) hold.
abbrev pub RunLaw : Type 0
RunLaw =
    (cap : ℕ) (log : List (Call × Answer)) → Run cap log →
    let s = leaves empty log in
    Proper s.pictures s.entries
    × Within cap s
    × ((r : Reading) × Satisfies r s.pictures s.entries)
    × NextEntry cap s
    × MustSays cap s
    × LockedShows cap s
    × FewSteps cap s

-- What a run leaves follows from its calls: two runs of the same calls leave the same, and have the same answers apart from the steps of their chains.
abbrev pub SameCallsLaw : Type 0
SameCallsLaw =
    (cap : ℕ) (l m : List (Call × Answer)) → Run cap l → Run cap m → AllZip (λ c d. c.0 ≡ d.0) l m →
    (leaves empty l ≡ leaves empty m) × AllZip (λ c d. Alike c.1 d.1) l m

-- A run in which nothing was refused for want of a place goes the same with every capacity that has room for its pictures.
abbrev pub CapacityLaw : Type 0
CapacityLaw =
    (cap more : ℕ) (log : List (Call × Answer)) → All (λ c. ¬ (c.1 ≡ refused full)) log → length (leaves empty log).pictures ≤ more →
    Run cap log → Run more log
