-- The calls and answers of a run, as those of the definitions. Assumes nothing.
use Rattle.std.specs.Prelude.{ℕ, min, List, [], ◌∷◌, Ok, Err, Result, vec_items}
use Rattle.theory.specs.Sheet.{same, differ}
use Rattle.theory.specs.Calls.{Call, add, tell, must, why, lock, reopen, value, apply, Answer, added, joined, noted, told, explained, turned, valued, refused}
use Rattle.engines.specs.Faults.{refusal_of}
use Rattle.engines.specs.declared.fault.SheetFault.{SheetFault}
use Rattle.runs.specs.declared.call.Call.{Call as Asked}
use Rattle.runs.specs.declared.call.Call.TheVariants.{Add, Same, Differ, Must, Why, Lock, Reopen, Value, Apply}
use Rattle.runs.specs.declared.answer.Answer.{Answer as Given}
use Rattle.runs.specs.declared.answer.Answer.TheVariants.{Added, Joined, Noted, Told, Explained, Turned, Valued}

-- the call; its step table has as many cells as it asks for, but not more than the n that were lent
abbrev pub call_of : ℕ → Asked → Call
call_of n (Add o is) = add o (vec_items is)
call_of n (Same a b cells) = tell (same a b) (min cells n)
call_of n (Differ a b cells) = tell (differ a b) (min cells n)
call_of n (Must a b) = must a b
call_of n (Why a b cells) = why a b (min cells n)
call_of n Lock = lock
call_of n Reopen = reopen
call_of n (Value p) = value p
call_of n (Apply o xs) = apply o (vec_items xs)

-- the answer
abbrev pub answer_of : Given → Answer
answer_of (Added a) = added a.number a.lowest
answer_of (Joined j) = joined j.entry j.joins
answer_of (Noted e) = noted e
answer_of (Told b) = told b
answer_of (Explained k) = explained k
answer_of Turned = turned
answer_of (Valued v) = valued v

-- what a call comes to: an answer, or a refusal
abbrev pub Reply : Type 0
Reply = Result Given SheetFault

-- the answer of the definitions that it is
abbrev pub reply_of : Reply → Answer
reply_of (Ok a) = answer_of a
reply_of (Err f) = refused (refusal_of f)

-- The log of a run: each answer with its call, in their order. A call without an answer was not made.
abbrev pub log_of : ℕ → List Asked → List Reply → List (Call × Answer)
log_of n [] rs = []
log_of n (c ∷ cs) [] = []
log_of n (c ∷ cs) (r ∷ rs) = (call_of n c, reply_of r) ∷ log_of n cs rs
