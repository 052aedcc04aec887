-- Each entry has one number. Assumes nothing.
use Rattle.std.proofs.Common.{◌≡◌, ℕ, zero, suc, ◌+◌, ◌≤◌, false, cond, ◌⊎◌, List, [], ◌∷◌, ◌++◌, length, sym, refl, ap, ◌∙◌, subst, ap₂, inl, inr, append_assoc, arith}
use Rattle.std.proofs.lemmas.Bool.{both_ways}
use Rattle.theory.specs.Sheet.{Entry, same, differ}
use Rattle.theory.specs.Calls.{tell, Refusal, Answer, with_entry, Unless, Contradicted, Taken, is_refused, after}
use Rattle.theory.specs.Numbers.{At, NumbersLaw, entry_number, NextNumberLaw}

-- ONE STEP DOWN THE LIST
none : (k : ℕ) (e : Entry) → ¬ At k [] e
none k (same l r) h = h
none k (differ l r) h = h

not_zero : (x : Entry) (E : List Entry) (e : Entry) → ¬ At zero (x ∷ E) e
not_zero x E (same l r) h = h
not_zero x E (differ l r) h = h

first : (x : Entry) (E : List Entry) (e : Entry) → At 1 (x ∷ E) e → x ≡ e
first (same a b) E (same l r) h = ap₂ same h.0 h.1
first (same a b) E (differ l r) h = absurd h
first (differ a b) E (same l r) h = absurd h
first (differ a b) E (differ l r) h = ap₂ differ h.0 h.1

first_at : (E : List Entry) (e : Entry) → At 1 (e ∷ E) e
first_at E (same l r) = (refl, refl)
first_at E (differ l r) = (refl, refl)

down : (x : Entry) (E : List Entry) (k : ℕ) (e : Entry) → At (suc (suc k)) (x ∷ E) e → At (suc k) E e
down x E k (same l r) h = h
down x E k (differ l r) h = h

up : (x : Entry) (E : List Entry) (k : ℕ) (e : Entry) → At (suc k) E e → At (suc (suc k)) (x ∷ E) e
up x E k (same l r) h = h
up x E k (differ l r) h = h

-- ALONG THE LIST
pub at_within : (E : List Entry) (k : ℕ) (e : Entry) → At k E e → (1 ≤ k) × (k ≤ length E)
at_within [] k e h = absurd (none k e h)
at_within (x ∷ E) zero e h = absurd (not_zero x E e h)
at_within (x ∷ E) (suc zero) e h = (omega arith, omega arith)
at_within (x ∷ E) (suc (suc k)) e h = (omega arith, omega (arith, (at_within E (suc k) e (down x E k e h)).1))

pub at_some : (E : List Entry) (k : ℕ) → 1 ≤ k → k ≤ length E → (e : Entry) × At k E e
at_some [] k a b = absurd (omega arith)
at_some (x ∷ E) zero a b = absurd (omega arith)
at_some (x ∷ E) (suc zero) a b = (x, first_at E x)
at_some (x ∷ E) (suc (suc k)) a b = let s = at_some E (suc k) (omega arith) (omega arith) in (s.0, up x E k s.0 s.1)

pub at_one : (E : List Entry) (k : ℕ) (d e : Entry) → At k E d → At k E e → d ≡ e
at_one [] k d e g h = absurd (none k d g)
at_one (x ∷ E) zero d e g h = absurd (not_zero x E d g)
at_one (x ∷ E) (suc zero) d e g h = sym (first x E d g) ∙ first x E e h
at_one (x ∷ E) (suc (suc k)) d e g h = at_one E (suc k) d e (down x E k d g) (down x E k e h)

pub at_more : (E F : List Entry) (k : ℕ) (e : Entry) → At k E e → At k (E ++ F) e
at_more [] F k e h = absurd (none k e h)
at_more (x ∷ E) F zero e h = absurd (not_zero x E e h)
at_more (x ∷ E) F (suc zero) e h = subst (λ y. At 1 (y ∷ (E ++ F)) e) (sym (first x E e h)) (first_at (E ++ F) e)
at_more (x ∷ E) F (suc (suc k)) e h = up x (E ++ F) k e (at_more E F (suc k) e (down x E k e h))

at_next : (E F : List Entry) (e : Entry) → At (suc (length E)) (E ++ (e ∷ F)) e
at_next [] F e = first_at F e
at_next (x ∷ E) F e = up x (E ++ (e ∷ F)) (length E) e (at_next E F e)

pub at_last : (E F : List Entry) (e : Entry) → At (length E + 1) ((E ++ (e ∷ [])) ++ F) e
at_last E F e = subst (λ k. At k ((E ++ (e ∷ [])) ++ F) e) next (subst (λ G. At (suc (length E)) G e) (sym (append_assoc E (e ∷ []) F)) (at_next E F e))
  where
    next : suc (length E) ≡ length E + 1
    next = omega arith

pub numbers_law : NumbersLaw
numbers_law E k = (((λ w. at_some E k w.0 w.1), (λ x. at_within E k x.0 x.1)), at_one E k)

-- AN ENTRY THAT IS TAKEN
pub passed : (bad : Type 0) (f : Refusal) (r : Answer) (next : Type 0) → is_refused r ≡ false → Unless bad f r next → next
passed bad f r next n (inl h) = absurd (both_ways (is_refused r) n (ap is_refused h.1))
passed bad f r next n (inr h) = h.1

pub next_number_law : NextNumberLaw
next_number_law cap s e cells r h n = (number, place)
  where
    taken : (e : Entry) → Taken s.pictures s.entries e r → entry_number r ≡ length s.entries + 1
    taken (same a b) t = ap entry_number t.4
    taken (differ a b) t = ap entry_number t

    decided : {I J : Type 0} → (I × Contradicted s.pictures (s.entries ++ (e ∷ [])) r) ⊎ (J × Taken s.pictures s.entries e r) → entry_number r ≡ length s.entries + 1
    decided (inl x) = absurd (both_ways (is_refused r) n (ap is_refused x.1.7))
    decided (inr x) = taken e x.1

    number : entry_number r ≡ length s.entries + 1
    number = decided (passed _ _ r _ n (passed _ _ r _ n (passed _ _ r _ n h)))

    appended : with_entry s e ≡ after s (tell e cells) r
    appended = ap (λ b. cond b s (with_entry s e)) (sym n)

    place : (F : List Entry) → At (entry_number r) ((after s (tell e cells) r).entries ++ F) e
    place F = subst (λ t. At (entry_number r) (t.entries ++ F) e) appended (subst (λ k. At k ((s.entries ++ (e ∷ [])) ++ F) e) (sym number) (at_last s.entries F e))
