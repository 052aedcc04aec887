-- The refusals follow their table. Assumes nothing.
use Rattle.std.proofs.Common.{◌≡◌, ℕ, ◌<◌, Bool, ◌≢◌, ◌⊎◌, ◌↔◌, List, [], ◌∷◌, ◌++◌, sym, ap, ◌∙◌, inl, inr, ⊎_elim, arith}
use Rattle.theory.specs.Sheet.{Picture, Entry, same, differ}
use Rattle.theory.specs.Calls.{Call, add, tell, must, why, lock, reopen, value, apply, Refusal, number, Answer, told, Content, Unless, Impossible, Contradicted, Taken, Answers, refusal_number, Refuses, Checked, ChecksLaw}

-- a row of the table: what passes it is not refused with its number
row : (bad : Type 0) (f : Refusal) (r : Answer) (next : Type 0) → (next → refusal_number r ≢ number f) → Unless bad f r next → bad ↔ Refuses r (number f)
row bad f r next g (inl h) = ((λ b. ap refusal_number h.1), (λ e. h.0))
row bad f r next g (inr h) = ((λ b. absurd (h.0 b)), (λ e. absurd (g h.1 e)))

-- a check that is passed
passes : (bad : Type 0) (f : Refusal) (r : Answer) (next : Type 0) → ¬ bad → Unless bad f r next → next
passes bad f r next n (inl h) = absurd (n h.0)
passes bad f r next n (inr h) = h.1

-- another refusal, or what the next check says
other : (k : ℕ) (bad : Type 0) (f : Refusal) (r : Answer) (next : Type 0) → number f ≢ k → (next → refusal_number r ≢ k) → Unless bad f r next → refusal_number r ≢ k
other k bad f r next n g (inl h) e = n (sym (ap refusal_number h.1) ∙ e)
other k bad f r next n g (inr h) e = g h.1 e

-- an entry that passes its other checks is taken or refused with 4
pub taken_zero : (P : List Picture) (E : List Entry) (e : Entry) (r : Answer) → Taken P E e r → refusal_number r ≡ 0
taken_zero P E (same a b) r t = ap refusal_number t.4
taken_zero P E (differ a b) r t = ap refusal_number t

decided : (k : ℕ) (I : Type 0) (P : List Picture) (E : List Entry) (e : Entry) (r : Answer) → 0 ≢ k → 4 ≢ k →
    (I × Contradicted P (E ++ (e ∷ [])) r) ⊎ ((¬ I) × Taken P E e r) → refusal_number r ≢ k
decided k I P E e r z f (inl x) q = f (sym (ap refusal_number x.1.7) ∙ q)
decided k I P E e r z f (inr x) q = z (sym (taken_zero P E e r x.1) ∙ q)

not_eq : (m n : ℕ) → m < n → m ≢ n
not_eq m n l e = omega (arith, l, e)

not_eq' : (m n : ℕ) → n < m → m ≢ n
not_eq' m n l e = omega (arith, l, e)

module _ (cap : ℕ) (s : Content) (r : Answer) where
  abbrev P : List Picture
  P = s.pictures

  abbrev E : List Entry
  E = s.entries

  -- an answer with this number of a refusal is no refusal with another
  is_other : (j k : ℕ) → j ≢ k → refusal_number r ≡ j → refusal_number r ≢ k
  is_other j k n e q = n (sym e ∙ q)

  add_table : (o : ℕ) (is : List ℕ) → Answers cap s (add o is) r → Checked cap s (add o is) r
  add_table o is h = (
    row _ _ r _ (other 5 _ _ r _ (not_eq 2 5 (omega arith)) (other 5 _ _ r _ (not_eq 3 5 (omega arith)) (λ m. is_other 0 5 (not_eq 0 5 (omega arith)) (ap refusal_number m.2)))) h,
    (λ few. row _ _ r _ (other 2 _ _ r _ (not_eq' 3 2 (omega arith)) (λ m. is_other 0 2 (not_eq 0 2 (omega arith)) (ap refusal_number m.2))) (passes _ _ r _ (λ l. omega arith) h)),
    (λ few on. row _ _ r _ (λ m. is_other 0 3 (not_eq 0 3 (omega arith)) (ap refusal_number m.2)) (passes _ _ r _ (λ n. n on) (passes _ _ r _ (λ l. omega arith) h))),
  )

  tell_table : (e : Entry) (cells : ℕ) → Answers cap s (tell e cells) r → Checked cap s (tell e cells) r
  tell_table e cells h = (
    row _ _ r _ (other 1 _ _ r _ (not_eq' 2 1 (omega arith)) (other 1 _ _ r _ (not_eq' 3 1 (omega arith)) (decided 1 _ P E e r (not_eq 0 1 (omega arith)) (not_eq' 4 1 (omega arith))))) h,
    (λ enough. row _ _ r _ (other 2 _ _ r _ (not_eq' 3 2 (omega arith)) (decided 2 _ P E e r (not_eq 0 2 (omega arith)) (not_eq' 4 2 (omega arith)))) (passes _ _ r _ (λ l. omega arith) h)),
    (λ enough on. row _ _ r _ (decided 3 _ P E e r (not_eq 0 3 (omega arith)) (not_eq' 4 3 (omega arith))) (passes _ _ r _ (λ n. n on) (passes _ _ r _ (λ l. omega arith) h))),
    (λ enough on room. last (passes _ _ r _ (λ l. omega arith) (passes _ _ r _ (λ n. n on) (passes _ _ r _ (λ l. omega arith) h)))),
  )
    where
      last : (Impossible s e × Contradicted P (E ++ (e ∷ [])) r) ⊎ ((¬ Impossible s e) × Taken P E e r) → Impossible s e ↔ Refuses r 4
      last (inl x) = ((λ i. ap refusal_number x.1.7), (λ q. x.0))
      last (inr x) = ((λ i. absurd (x.0 i)), (λ q. absurd (is_other 0 4 (not_eq 0 4 (omega arith)) (taken_zero P E e r x.1) q)))

  why_table : (a b cells : ℕ) → Answers cap s (why a b cells) r → Checked cap s (why a b cells) r
  why_table a b cells h = (
    row _ _ r _ (other 1 _ _ r _ (not_eq' 2 1 (omega arith)) (other 1 _ _ r _ (not_eq' 6 1 (omega arith)) (λ m. is_other 0 1 (not_eq 0 1 (omega arith)) (ap refusal_number m.2)))) h,
    (λ enough. row _ _ r _ (other 2 _ _ r _ (not_eq' 6 2 (omega arith)) (λ m. is_other 0 2 (not_eq 0 2 (omega arith)) (ap refusal_number m.2))) (passes _ _ r _ (λ l. omega arith) h)),
    (λ enough oa ob. row _ _ r _ (λ m. is_other 0 6 (not_eq 0 6 (omega arith)) (ap refusal_number m.2)) (passes _ _ r _ (λ n. n (oa, ob)) (passes _ _ r _ (λ l. omega arith) h))),
  )

  table : (c : Call) → Answers cap s c r → Checked cap s c r
  table (add o is) h = add_table o is h
  table (tell e cells) h = tell_table e cells h
  table (must a b) h = row _ _ r _ (⊎_elim (λ x. zero-two x.1) (λ x. zero-two x.1)) h
    where
      zero-two : {b : Bool} → r ≡ told b → refusal_number r ≢ 2
      zero-two e = is_other 0 2 (not_eq 0 2 (omega arith)) (ap refusal_number e)
  table (why a b cells) h = why_table a b cells h
  table lock h = h
  table reopen h = h
  table (value p) h = row _ _ r _ (λ m. is_other 0 2 (not_eq 0 2 (omega arith)) (ap refusal_number m.2)) h
  table (apply o xs) h = row _ _ r _ (λ m. is_other 0 5 (not_eq 0 5 (omega arith)) (ap refusal_number m.2)) h

pub checks_law : ChecksLaw
checks_law cap s c r h = table cap s r c h
