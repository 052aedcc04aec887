-- A line's call, from what the sheet promises of it. Assumes nothing.
use Rattle.std.proofs.Common.{◌≡◌, ℕ, ◌-◌, ◌≤◌, List, [], ◌∷◌, length, get_or, take, drop, Ok, Err, Result, MatchResult, sym, refl, ap, ◌∙◌, subst, inl, inr, arith}
use Rattle.std.specs.Result.{IsOkAnd}
use Rattle.std.proofs.lemmas.Slice.{first_rest}
use Rattle.theory.specs.Calls.{Call, Content, Answers, add, after}
use Rattle.theory.specs.Calls.{Answer as Said}
use Rattle.engines.specs.declared.fault.SheetFault.{SheetFault}
use Rattle.engines.specs.Faults.{reply}
use Rattle.printouts.specs.declared.reply.Answer.{Answer}
use Rattle.printouts.specs.Form.{Takes}
use Rattle.printouts.specs.Replies.{Outcome, answer_of, outcome_of, Makes, Did}

pub some_after_p : (c n : ℕ) → Takes c n → c ≡ 112 → 1 ≤ n
some_after_p c n (inl t) e = t.1
some_after_p c n (inr t) e = omega (arith, t.1)

-- p makes a call of an operation and its inputs
pub makes_add : (c : ℕ) (ns xs : List ℕ) → Takes c (length ns) → c ≡ 112 → ns ≡ xs → Makes c ns (add (get_or xs 0 0) (take (length xs - 1) (drop 1 xs)))
makes_add c ns xs t e q = (e, q ∙ first_rest xs 0 (omega (arith, ap length q, some_after_p c (length ns) t e)))

pub two_after : (c n : ℕ) → Takes c n → (c ≡ 112 → ⊥) → n ≡ 2
two_after c n (inl t) ne = absurd (ne t.0)
two_after c n (inr t) ne = t.1

pub two : (ns : List ℕ) → length ns ≡ 2 → ns ≡ get_or ns 0 0 ∷ get_or ns 1 0 ∷ []
two [] h = absurd (omega arith)
two (x ∷ []) h = absurd (omega arith)
two (x ∷ y ∷ []) h = refl
two (x ∷ y ∷ z ∷ ns) h = absurd (omega arith)

-- every other letter has two pictures
pub pair_of : (c : ℕ) (ns xs : List ℕ) → Takes c (length ns) → (c ≡ 112 → ⊥) → ns ≡ xs → ns ≡ get_or xs 0 0 ∷ get_or xs 1 0 ∷ []
pair_of c ns xs t ne q = q ∙ two xs (sym (ap length q) ∙ two_after c (length ns) t ne)

-- an answer is wrapped, and a refusal is as it was
pub carried_so : {X : Type 0} (says : X → Said) (wrap : X → Answer) → ((x : X) → answer_of (wrap x) ≡ says x) → (r : Result X SheetFault) (o : Outcome) → MatchResult r (λ x. IsOkAnd o (λ a. a ≡ wrap x)) (λ e. o ≡ Err e) → outcome_of o ≡ reply says r
carried_so says wrap same (Ok x) (Ok a) h = ap answer_of h ∙ same x
carried_so says wrap same (Ok x) (Err f) h = absurd h
carried_so says wrap same (Err e) o h = ap outcome_of h

-- what the sheet says of the call is what the line did
pub did_so : (cap : ℕ) (s s' : Content) (c : ℕ) (ns : List ℕ) (k : Call) (a : Said) (o : Outcome) → Makes c ns k → Answers cap s k a → s' ≡ after s k a → outcome_of o ≡ a → Did cap s c ns o s'
did_so cap s s' c ns k a o m h e q = record { call = k; makes = m; answers = subst (Answers cap s k) (sym q) h; leaves = e ∙ ap (after s k) (sym q) }
