-- Where calls stand, and what they leave. Assumes nothing.
use Rattle.std.specs.Prelude.{◌≡◌, ℕ, true, false, ◌↔◌, List, [], ◌∷◌, ◌++◌}
use Rattle.theory.specs.Sheet.{Entry}
use Rattle.theory.specs.Calls.{Call, add, tell, must, why, lock, reopen, value, apply, Refusal, Answer, refused, Content, empty, Stands, Answers, is_refused, after}
use Rattle.theory.specs.Runs.{Goes, leaves}

-- an open sheet has add, the entries, must, why and lock, and no other call; a locked one has must, why, value, apply and reopen, and no other
abbrev pub StandsLaw : Type 0
StandsLaw =
    (s : Content) (o p a b cells : ℕ) (xs : List ℕ) (e : Entry) →
    (s.locked ≡ false →
    (Stands s (add o xs) × Stands s (tell e cells) × Stands s (must a b) × Stands s (why a b cells) × Stands s lock)
    × ((¬ Stands s (value p)) × (¬ Stands s (apply o xs)) × (¬ Stands s reopen)))
    × (s.locked ≡ true →
    (Stands s (must a b) × Stands s (why a b cells) × Stands s (value p) × Stands s (apply o xs) × Stands s reopen)
    × ((¬ Stands s (add o xs)) × (¬ Stands s (tell e cells)) × (¬ Stands s lock)))

-- an answer counts as refused exactly when it is a refusal
abbrev pub RefusalLaw : Type 0
RefusalLaw = (r : Answer) → (is_refused r ≡ true) ↔ ((f : Refusal) × (r ≡ refused f))

-- a refused call leaves the sheet as it was
abbrev pub RefusedLaw : Type 0
RefusedLaw = (cap : ℕ) (s : Content) (c : Call) (f : Refusal) → Answers cap s c (refused f) → after s c (refused f) ≡ s

-- an add that is not refused appends its picture, an entry that is not refused is appended, and nothing else is changed
abbrev pub AppendedLaw : Type 0
AppendedLaw =
    (s : Content) (r : Answer) → is_refused r ≡ false →
    ((o : ℕ) (is : List ℕ) →
    after s (add o is) r ≡ record { locked = s.locked; pictures = s.pictures ++ (record { operation = o; inputs = is } ∷ []); entries = s.entries })
    × ((e : Entry) (cells : ℕ) →
    after s (tell e cells) r ≡ record { locked = s.locked; pictures = s.pictures; entries = s.entries ++ (e ∷ []) })

-- must, why, value and apply leave the sheet as it was, whatever they answer
abbrev pub AskedLaw : Type 0
AskedLaw =
    (s : Content) (r : Answer) (o p a b cells : ℕ) (xs : List ℕ) →
    (after s (must a b) r ≡ s) × (after s (why a b cells) r ≡ s) × (after s (value p) r ≡ s) × (after s (apply o xs) r ≡ s)

-- lock and reopen only turn the sheet: it has the same pictures and entries, and reopen gives back the sheet that was locked
abbrev pub TurnedLaw : Type 0
TurnedLaw =
    (s : Content) → s.locked ≡ false → (q r : Answer) →
    let t = after s lock q in
    (t.locked ≡ true) × (t.pictures ≡ s.pictures) × (t.entries ≡ s.entries) × (after t reopen r ≡ s)

-- a sheet starts open, and only lock locks it
abbrev pub LockingLaw : Type 0
LockingLaw = (empty.locked ≡ false) × ((s : Content) (c : Call) (r : Answer) → s.locked ≡ false → (after s c r).locked ≡ true → c ≡ lock)

-- must and why have the same answers on a locked sheet as on an open one with the same content
abbrev pub SameAnswersLaw : Type 0
SameAnswersLaw =
    (cap : ℕ) (s t : Content) → s.pictures ≡ t.pictures → s.entries ≡ t.entries → (a b cells : ℕ) (r : Answer) →
    (Answers cap s (must a b) r ↔ Answers cap t (must a b) r) × (Answers cap s (why a b cells) r ↔ Answers cap t (why a b cells) r)

-- one call more can be made exactly where it stands on what the calls before it leave and has its answer there, and the row then leaves what that call leaves
abbrev pub CallMoreLaw : Type 0
CallMoreLaw =
    (cap : ℕ) (s : Content) (log : List (Call × Answer)) (c : Call) (r : Answer) →
    (Goes cap s (log ++ ((c, r) ∷ [])) ↔ (Goes cap s log × Stands (leaves s log) c × Answers cap (leaves s log) c r))
    × (leaves s (log ++ ((c, r) ∷ [])) ≡ after (leaves s log) c r)
