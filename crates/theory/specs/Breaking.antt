-- The broken entry, the detail of a refusal and the chain that comes with it. Assumes nothing.
use Rattle.std.specs.Prelude.{◌≡◌, ℕ, ◌+◌, ◌≤◌, false, ◌≢◌, ◌⊎◌, ◌↔◌, List, [], ◌∷◌, ◌++◌, length}
use Rattle.theory.specs.Sheet.{Picture, Entry, same, differ, On, Proper, Closure, Broken}
use Rattle.theory.specs.Statements.{Satisfiable}
use Rattle.theory.specs.Reasons.{Explains}
use Rattle.theory.specs.Calls.{tell, why, Refusal, number, detail, Answer, explained, refused, Content, Differs, Shown, Answers, is_refused, refusal_steps, steps, Refuses}

-- the broken entry is a `differ` entry whose two pictures the closure joins, and the lowest of these
abbrev pub BrokenLaw : Type 0
BrokenLaw =
    (P : List Picture) (E : List Entry) (k : ℕ) →
    Broken P E k ↔ (((a b : ℕ) × Differs k E a b × Closure P E a b) × ((j a b : ℕ) → Differs j E a b → Closure P E a b → k ≤ j))

-- where some reading satisfies the entries taken, a `differ` entry that is refused as a contradiction is itself the broken entry, with the number that it would
-- have had; and for a `same` entry the broken entry is one of the entries taken
abbrev pub DetailLaw : Type 0
DetailLaw =
    (cap : ℕ) (s : Content) → Proper s.pictures s.entries → Satisfiable s.pictures s.entries → (a b cells : ℕ) (f : Refusal) → number f ≡ 4 →
    (Answers cap s (tell (differ a b) cells) (refused f) → detail f ≡ length s.entries + 1)
    × (Answers cap s (tell (same a b) cells) (refused f) → (1 ≤ detail f) × (detail f ≤ length s.entries))

-- every other refusal has the detail 0, and no steps
abbrev pub NoDetailLaw : Type 0
NoDetailLaw = (f : Refusal) → number f ≢ 4 → (detail f ≡ 0) × (refusal_steps f ≡ 0)

-- only a why that is not refused and a refusal as a contradiction have steps
abbrev pub WritesLaw : Type 0
WritesLaw = (r : Answer) → steps r ≢ 0 → ((n : ℕ) × (r ≡ explained n)) ⊎ Refuses r 4

-- the steps of a contradiction are those of a chain that joins the two pictures of the entry that the detail names, the refused entry being counted; and the steps
-- of why are those of a chain that joins the two pictures of the call
abbrev pub StepsLaw : Type 0
StepsLaw =
    (cap : ℕ) (s : Content) (cells : ℕ) →
    ((e : Entry) (f : Refusal) → number f ≡ 4 → Answers cap s (tell e cells) (refused f) →
    let E = s.entries ++ (e ∷ []) in
    ((a b : ℕ) × Differs (detail f) E a b) × ((a b : ℕ) → Differs (detail f) E a b → Shown s.pictures E a b (refusal_steps f)))
    × ((a b : ℕ) (r : Answer) → is_refused r ≡ false → Answers cap s (why a b cells) r → Shown s.pictures s.entries a b (steps r))

-- a chain with no steps joins each picture with itself, and no others
abbrev pub NoStepsLaw : Type 0
NoStepsLaw = (P : List Picture) (E : List Entry) (a b : ℕ) → Explains P E a b [] ↔ (On P a × (a ≡ b))
