-- What a line is answered, and how that is printed. Assumes nothing.
use Rattle.std.specs.Prelude.{◌≡◌, ℕ, cond, ◌⊎◌, List, [], ◌∷◌, ◌++◌, Ok, Err, codes, decimal, Result}
use Rattle.theory.specs.Sheet.{same, differ}
use Rattle.theory.specs.Calls.{Call, add, tell, must, why, lock, reopen, value, apply, added, joined, noted, told, explained, turned, valued, refused, number, detail, Content, Answers, after}
use Rattle.theory.specs.Calls.{Answer as Said}
use Rattle.engines.specs.Faults.{refusal_of}
use Rattle.engines.specs.declared.fault.SheetFault.{SheetFault}
use Rattle.printouts.specs.declared.fault.LineFault.{LineFault}
use Rattle.printouts.specs.declared.fault.LineFault.TheVariants.{Sheet}
use Rattle.printouts.specs.declared.reply.Answer.{Answer}
use Rattle.printouts.specs.declared.reply.Answer.TheVariants.{Added, Joined, Noted, Told}
use Rattle.printouts.specs.Faults.{line_fault_number, line_fault_detail, fault_text}
use Rattle.printouts.specs.Form.{Says, Misread}

-- what a call answers
abbrev pub Outcome : Type 0
Outcome = Result Answer SheetFault

-- what a line is answered
abbrev pub Reply : Type 0
Reply = Result Answer LineFault

-- the answer of the definitions that a call's answer is
abbrev pub answer_of : Answer → Said
answer_of (Added a) = added a.number a.lowest
answer_of (Joined j) = joined j.entry j.joins
answer_of (Noted e) = noted e
answer_of (Told b) = told b

-- and the one that its outcome is
abbrev pub outcome_of : Outcome → Said
outcome_of (Ok a) = answer_of a
outcome_of (Err f) = refused (refusal_of f)

-- An answer as it is printed: p with the number and the lowest number in its class, s with the entry and its joins, d with the entry, m with yes or no,
-- and no with the number of the refusal and its detail. A list makes no other calls.
abbrev pub said_text : Said → List ℕ
said_text (added n m) = codes "p " ++ (decimal n ++ (codes " " ++ decimal m))
said_text (joined k j) = codes "s " ++ (decimal k ++ (codes " " ++ decimal j))
said_text (noted k) = codes "d " ++ decimal k
said_text (told b) = cond b (codes "m yes") (codes "m no")
said_text (explained n) = []
said_text turned = []
said_text (valued v) = []
said_text (refused f) = codes "no " ++ (decimal (number f) ++ (codes " " ++ decimal (detail f)))

-- the answer of a line's call as it is printed
abbrev pub answer_text : Answer → List ℕ
answer_text a = said_text (answer_of a)

-- a reply as it is printed
abbrev pub reply_text : Reply → List ℕ
reply_text (Ok a) = answer_text a
reply_text (Err f) = fault_text f

-- what a call answers is the line's reply, and its fault is held whole in the line's
abbrev pub carried : Outcome → Reply
carried (Ok a) = Ok a
carried (Err f) = Err (Sheet f)

-- The letter c and the numbers ns make this call: p adds a picture of an operation and inputs, s and d tell an entry of two pictures, with a step table
-- of 1,024 cells, and m asks of two pictures whether they must be the same.
abbrev pub Makes : ℕ → List ℕ → Call → Type 0
Makes c ns (add o is) = (c ≡ 112) × (ns ≡ o ∷ is)
Makes c ns (tell (same a b) cells) = (c ≡ 115) × (ns ≡ a ∷ b ∷ []) × (cells ≡ 1024)
Makes c ns (tell (differ a b) cells) = (c ≡ 100) × (ns ≡ a ∷ b ∷ []) × (cells ≡ 1024)
Makes c ns (must a b) = (c ≡ 109) × (ns ≡ a ∷ b ∷ [])
Makes c ns (why a b cells) = ⊥
Makes c ns lock = ⊥
Makes c ns reopen = ⊥
Makes c ns (value p) = ⊥
Makes c ns (apply o xs) = ⊥

-- The letter c and the numbers ns make a call that has this outcome on a sheet that holds s, whose keeper has the capacity cap, and the sheet then
-- holds s'.
pub record Did (cap : ℕ) (s : Content) (c : ℕ) (ns : List ℕ) (o : Outcome) (s' : Content) : Type 0 where
  pub call : Call
  pub makes : Makes c ns call
  pub answers : Answers cap s call (outcome_of o)
  pub leaves : s' ≡ after s call (outcome_of o)

module _ {S : Type 0} (does : S → ℕ → List ℕ → Outcome → S → Type 0) where
  -- the line says a call, which leads from s to s', and what the call answers is the reply
  pub record Called (s : S) (bs : List ℕ) (r : Reply) (s' : S) : Type 0 where
    pub letter : ℕ
    pub numbers : List ℕ
    pub says : Says bs letter numbers
    pub outcome : Outcome
    pub did : does s letter numbers outcome s'
    pub same : r ≡ carried outcome

  -- the line is refused before any call
  pub record Unread (s : S) (bs : List ℕ) (r : Reply) (s' : S) : Type 0 where
    pub fault : LineFault
    pub same : r ≡ Err fault
    pub misread : Misread bs (line_fault_number fault) (line_fault_detail fault)
    pub still : s' ≡ s

  -- the reply to one line: what its call answers, or its refusal
  abbrev pub Replies : S → List ℕ → Reply → S → Type 0
  Replies s bs r s' = Called s bs r s' ⊎ Unread s bs r s'
