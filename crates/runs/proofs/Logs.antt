-- The log of a run grows call by call, and the law holds at each place of it. Assumes nothing.
use Rattle.std.proofs.Common.{◌≡◌, ℕ, zero, suc, ◌+◌, ◌-◌, ◌<◌, ◌≤◌, min, ◌↔◌, List, [], ◌∷◌, ◌++◌, length, get_or, take, Some, None, Ok, Err, Result, MatchResult, IsOkAnd, sym, refl, ap, ◌∙◌, subst, arith, length-take}
use Rattle.std.proofs.lemmas.List.{length_push}
use Rattle.theory.specs.Calls.{Call, Answer, Content, empty, Stands, Answers, after}
use Rattle.theory.specs.Runs.{Goes, Run, leaves}
use Rattle.theory.proofs.Runs.{run_law}
use Rattle.theory.proofs.Leaving.{call_more_law}
use Rattle.runs.specs.declared.call.Call.{Call as Asked}
use Rattle.engines.specs.declared.fault.SheetFault.{SheetFault}
use Rattle.engines.specs.Faults.{reply}
use Rattle.runs.specs.declared.answer.Answer.{Answer as Given}
use Rattle.runs.specs.Calls.{Reply, call_of, answer_of, reply_of, log_of}
use Rattle.runs.specs.States.{GoesOn}
use Rattle.runs.specs.Laws.{Answered, Law}

-- what is shown of a call and its answer is shown of the call that was asked for and the answer that is given
pub goes_on : (cap : ℕ) (s t : Content) (c d : Call) (r : Answer) (a : Reply) → d ≡ c → reply_of a ≡ r → Stands s d → Answers cap s d r → t ≡ after s d r → GoesOn cap s c (Some a) t
goes_on cap s t c d r a ed er st h e =
    subst (λ (x : Call). GoesOn cap s x (Some a) t) ed (st, subst (Answers cap s d) (sym er) h, e ∙ ap (after s d) (sym er))

-- an answer of a sheet that becomes one of a run stays the answer that it is
pub mapped : {X : Type 0} (says : X → Answer) (f : X → Given) → ((x : X) → answer_of (f x) ≡ says x) → (r : Result X SheetFault) (r' : Reply) →
    MatchResult r (λ x. IsOkAnd r' (λ y. y ≡ f x)) (λ e. r' ≡ Err e) → reply_of r' ≡ reply says r
mapped says f same (Ok x) (Ok y) h = ap answer_of h ∙ same x
mapped says f same (Ok x) (Err e) h = absurd h
mapped says f same (Err e) r' h = ap reply_of h

-- the cells that are lent to a call
pub cells_lent : {X : Type 0} (t : List X) (k c : ℕ) → k ≡ min c (length t) → length (take (k - 0) t) ≡ min c (length t)
cells_lent t k c e = simp length-take (omega arith)

-- the first calls of a log are a run
goes_take : (cap : ℕ) (s : Content) (log : List (Call × Answer)) (i : ℕ) → Goes cap s log → Goes cap s (take i log)
goes_take cap s log zero g = tt
goes_take cap s [] (suc i) g = tt
goes_take cap s (c ∷ log) (suc i) g = (g.0, g.1, goes_take cap (after s c.0 c.1) log i g.2)

pub lawful : (cap : ℕ) (log : List (Call × Answer)) → Run cap log → Law cap log
lawful cap log g i =
    let l = run_law cap (take i log) (goes_take cap empty log i g) in
    record {
      proper = l.0;
      within = l.1;
      satisfiable = l.2;
      next_entry = l.3;
      must_says = l.4;
      locked_shows = l.5;
      few_steps = l.6;
    }

-- one answer more is one call more
log_push : (n : ℕ) (cs : List Asked) (rs : List Reply) (r : Reply) (d : Asked) → length rs < length cs → log_of n cs (rs ++ r ∷ []) ≡ log_of n cs rs ++ ((call_of n (get_or cs (length rs) d), reply_of r) ∷ [])
log_push n [] rs r d l = absurd (omega arith)
log_push n (c ∷ []) [] r d l = refl
log_push n (c ∷ e ∷ cs) [] r d l = refl
log_push n (c ∷ cs) (q ∷ rs) r d l = ap (λ (log : List (Call × Answer)). (call_of n c, reply_of q) ∷ log) (log_push n cs rs r d (omega arith))

get_or_other : {X : Type 0} (xs : List X) (i : ℕ) (d e : X) → i < length xs → get_or xs i d ≡ get_or xs i e
get_or_other [] i d e l = absurd (omega arith)
get_or_other (x ∷ xs) zero d e l = refl
get_or_other (x ∷ xs) (suc i) d e l = get_or_other xs i d e (omega arith)

-- THE RUN SO FAR
pub record Runs (cap n : ℕ) (cs : List Asked) (rs : List Reply) (i : ℕ) (s : Content) : Type 0 where
  pub ran : Run cap (log_of n cs rs)
  pub made : length rs ≡ i
  pub holds : s ≡ leaves empty (log_of n cs rs)

pub runs_first : (cap n : ℕ) (cs : List Asked) (rs : List Reply) (s : Content) → rs ≡ [] → s ≡ empty → Runs cap n cs rs 0 s
runs_first cap n cs rs s er es =
    subst (λ (qs : List Reply). Runs cap n cs qs 0 s) (sym er) (none cs)
  where
    none : (ds : List Asked) → Runs cap n ds [] 0 s
    none [] = record { ran = tt; made = refl; holds = es }
    none (d ∷ ds) = record { ran = tt; made = refl; holds = es }

pub runs_more : (cap n : ℕ) (cs : List Asked) (rs rs' : List Reply) (i : ℕ) (s t : Content) (c : Asked) (r : Reply) → Runs cap n cs rs i s → i < length cs → c ≡ get_or cs i c → rs' ≡ rs ++ r ∷ [] →
    GoesOn cap s (call_of n c) (Some r) t → Runs cap n cs rs' (i + 1) t
runs_more cap n cs rs rs' i s t c r w l ec er g =
    record {
      ran = subst (Run cap) (sym same_log) (more.0.1 (w.ran, subst (λ (u : Content). Stands u (call_of n c)) w.holds g.0, subst (λ (u : Content). Answers cap u (call_of n c) (reply_of r)) w.holds g.1));
      made = ap length er ∙ (length_push rs r ∙ ap (λ (k : ℕ). k + 1) w.made);
      holds = g.2 ∙ (ap (λ (u : Content). after u (call_of n c) (reply_of r)) w.holds ∙ (sym more.1 ∙ ap (leaves empty) (sym same_log)));
    }
  where
    more : (Goes cap empty (log_of n cs rs ++ ((call_of n c, reply_of r) ∷ [])) ↔ (Goes cap empty (log_of n cs rs) × Stands (leaves empty (log_of n cs rs)) (call_of n c) × Answers cap (leaves empty (log_of n cs rs)) (call_of n c) (reply_of r)))
        × (leaves empty (log_of n cs rs ++ ((call_of n c, reply_of r) ∷ [])) ≡ after (leaves empty (log_of n cs rs)) (call_of n c) (reply_of r))
    more = call_more_law cap empty (log_of n cs rs) (call_of n c) (reply_of r)

    at : get_or cs (length rs) c ≡ c
    at = ap (λ (k : ℕ). get_or cs k c) w.made ∙ sym ec

    same_log : log_of n cs rs' ≡ log_of n cs rs ++ ((call_of n c, reply_of r) ∷ [])
    same_log =
        ap (log_of n cs) er
        ∙ (log_push n cs rs r c (omega (arith, l, w.made))
        ∙ ap (λ (x : Asked). log_of n cs rs ++ ((call_of n x, reply_of r) ∷ [])) at)

pub runs_all : (cap n : ℕ) (cs : List Asked) (rs : List Reply) (i : ℕ) (s : Content) → Runs cap n cs rs i s → length cs ≤ i → i ≤ length cs → Answered cap n cs rs
runs_all cap n cs rs i s w l m = record { ran = w.ran; most = omega (arith, w.made); ends = λ d h. absurd (omega (arith, h, w.made)) }

pub runs_until : (cap n : ℕ) (cs : List Asked) (rs : List Reply) (i : ℕ) (s t : Content) (c : Asked) → Runs cap n cs rs i s → i < length cs → c ≡ get_or cs i c →
    GoesOn cap s (call_of n c) None t → Answered cap n cs rs
runs_until cap n cs rs i s t c w l ec g =
    record {
      ran = w.ran;
      most = omega (arith, l, w.made);
      ends = λ d h k. g.0 (subst (λ (u : Content). Stands u (call_of n c)) (sym w.holds) (subst (λ (x : Asked). Stands (leaves empty (log_of n cs rs)) (call_of n x)) (at d) k));
    }
  where
    at : (d : Asked) → get_or cs (length rs) d ≡ c
    at d = ap (λ (k : ℕ). get_or cs k d) w.made ∙ (get_or_other cs i d c l ∙ sym ec)
