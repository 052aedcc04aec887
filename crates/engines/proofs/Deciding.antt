-- What the checks and the broken entry decide. Assumes nothing.
use Rattle.std.proofs.Common.{◌≡◌, ℕ, zero, suc, ◌<◌, true, false, ◌⊎◌, List, [], ◌∷◌, ◌++◌, length, get_or, All, sym, refl, ◌∙◌, subst, inl, inr, arith}
use Rattle.std.proofs.lemmas.List.Elements.{All-nil, All-cons, All-head, All-tail, All-get_or}
use Rattle.std.proofs.lemmas.List.{get_or-map, length-map}
use Rattle.std.proofs.lemmas.Bool.{eqb-true, eqb-false, both_ways}
use Rattle.theory.specs.Sheet.{Picture, Entry, same, differ, On, Placed, Proper, First, Breaks, Broken}
use Rattle.theory.specs.Calls.{Content, Answers, Answer, refused, tell, Impossible, Contradicted, Taken, Differs}
use Rattle.theory.proofs.Laws.{contradiction_law}
use Rattle.keepers.specs.Meaning.{rep}
use Rattle.congruence.specs.Working.{Closes}
use Rattle.engines.specs.declared.entry.Entry.{Entry as Told}
use Rattle.engines.specs.declared.entry.Entry.TheVariants.{Same, Differ}
use Rattle.engines.specs.declared.fault.SheetFault.{SheetFault}
use Rattle.engines.specs.declared.fault.SheetFault.TheVariants.{FewCells, NoPicture, Full, Contradiction, Inputs, Apart}
use Rattle.engines.specs.Content.{entry_of, taken}
use Rattle.engines.specs.Faults.{refusal_of}
use Rattle.engines.specs.Checks.{Both, Stopped, Passed}
use Rattle.engines.specs.Breaking.{left_of, right_of, Inside, broken, Unbroken}

-- THE FIRST OF A LIST
pub first_from : {X : Type 0} (Q : X → Type 0) (xs : List X) (i : ℕ) (d : X) → i < length xs → ((k : ℕ) → k < i → ¬ Q (get_or xs k d)) → Q (get_or xs i d) → First Q (suc i) xs
first_from Q [] i d l n q = absurd (omega arith)
first_from Q (x ∷ xs) zero d l n q = q
first_from Q (x ∷ xs) (suc i) d l n q = (n 0 (omega arith), first_from Q xs i d (omega arith) (λ k h. n (suc k) (omega arith)) q)

pub first_none : {X : Type 0} (Q : X → Type 0) (xs : List X) → All (λ x. ¬ Q x) xs → (k : ℕ) → ¬ First Q k xs
first_none Q [] a k f = f
first_none Q (x ∷ xs) a zero f = f
first_none Q (x ∷ xs) a (suc zero) f = All-head (λ y. ¬ Q y) x xs a f
first_none Q (x ∷ xs) a (suc (suc k)) f = first_none Q xs (All-tail (λ y. ¬ Q y) x xs a) (suc k) f.1

pub first_last : {X : Type 0} (Q : X → Type 0) (xs : List X) (x : X) → All (λ y. ¬ Q y) xs → Q x → First Q (suc (length xs)) (xs ++ x ∷ [])
first_last Q [] x a q = q
first_last Q (y ∷ ys) x a q = (All-head (λ z. ¬ Q z) y ys a, first_last Q ys x (All-tail (λ z. ¬ Q z) y ys a) q)

first_more : {X : Type 0} (Q : X → Type 0) (xs ys : List X) (k : ℕ) → First Q k xs → First Q k (xs ++ ys)
first_more Q [] ys k f = absurd f
first_more Q (x ∷ xs) ys zero f = f
first_more Q (x ∷ xs) ys (suc zero) f = f
first_more Q (x ∷ xs) ys (suc (suc k)) f = (f.0, first_more Q xs ys (suc k) f.1)

-- POSSIBLE OR NOT
pub impossible : (s : Content) (e : Entry) (k : ℕ) → Proper s.pictures (s.entries ++ (e ∷ [])) → Broken s.pictures (s.entries ++ (e ∷ [])) k → Impossible s e
impossible s e k w b = (contradiction_law s.pictures (s.entries ++ (e ∷ [])) w).1 (k, b)

pub possible : (s : Content) (e : Entry) → Proper s.pictures (s.entries ++ (e ∷ [])) →
    All (λ x. ¬ Breaks s.pictures (s.entries ++ (e ∷ [])) x) (s.entries ++ (e ∷ [])) → ¬ Impossible s e
possible s e w a i =
    let k = (contradiction_law s.pictures (s.entries ++ (e ∷ [])) w).0 i in
    first_none (Breaks s.pictures (s.entries ++ (e ∷ []))) (s.entries ++ (e ∷ [])) a k.0 k.1

-- THE BROKEN ENTRY
module _ (rs : List ℕ) (P : List Picture) (E' : List Entry) (c : Closes P E' (rep rs)) where
  breaks_from : (e : Told) → Placed P (entry_of e) → broken rs e ≡ true → Breaks P E' (entry_of e)
  breaks_from (Same a b) p h = both_ways false refl h
  breaks_from (Differ a b) p h = (c a b p.0 p.1).0 (eqb-true (rep rs a) (rep rs b) h)

  not_breaks : (e : Told) → broken rs e ≡ false → ¬ Breaks P E' (entry_of e)
  not_breaks (Same a b) h k = k
  not_breaks (Differ a b) h k = eqb-false (rep rs a) (rep rs b) h ((c a b k.0 k.1).1 k)

  -- none is broken
  pub none_breaks : (es : List Told) → Unbroken rs es (length es) → All (λ e. ¬ Breaks P E' e) (taken es)
  none_breaks es u = go es (λ k d l. u k d l l)
    where
      go : (fs : List Told) → ((k : ℕ) (d : Told) → k < length fs → broken rs (get_or fs k d) ≡ false) → All (λ e. ¬ Breaks P E' e) (taken fs)
      go [] h = All-nil (λ e. ¬ Breaks P E' e)
      go (f ∷ fs) h =
          All-cons (λ e. ¬ Breaks P E' e) (entry_of f) (taken fs) (not_breaks f (h 0 f (omega arith))) (go fs (λ k d l. h (suc k) d (omega arith)))

  -- the one at place i is the first that is broken
  pub first_breaks : (es : List Told) (F : List Entry) (i : ℕ) (d : Told) → i < length es → All (Placed P) (taken es) → broken rs (get_or es i d) ≡ true → Unbroken rs es i →
      First (Breaks P E') (suc i) (taken es ++ F)
  first_breaks es F i d l p h u =
      first_more (Breaks P E') (taken es) F (suc i)
      (first_from (Breaks P E') (taken es) i (entry_of d) (omega (arith, l, length-map es entry_of))
      (λ k lt. subst (λ (e : Entry). ¬ Breaks P E' e) (sym (at k (omega (arith, lt, l)))) (not_breaks (get_or es k d) (u k d lt (omega (arith, lt, l)))))
      (subst (Breaks P E') (sym (at i l)) (breaks_from (get_or es i d) (subst (Placed P) (at i l) (All-get_or (Placed P) (taken es) i (entry_of d) (omega (arith, l, length-map es entry_of)) p)) h)))
    where
      at : (k : ℕ) → k < length es → get_or (taken es) k (entry_of d) ≡ entry_of (get_or es k d)
      at k lt = get_or-map entry_of es k d (entry_of d) lt

-- a broken entry is the `differ` entry of its pictures
is_differ : (rs : List ℕ) (e : Told) → broken rs e ≡ true → entry_of e ≡ differ (left_of e) (right_of e)
is_differ rs (Same a b) h = absurd (both_ways false refl h)
is_differ rs (Differ a b) h = refl

differs_from : (E F : List Entry) (i : ℕ) (d : Entry) (a b : ℕ) → i < length E → get_or E i d ≡ differ a b → Differs (suc i) (E ++ F) a b
differs_from [] F i d a b l e = absurd (omega arith)
differs_from (same x y ∷ E) F zero d a b l e = let z : ◌≡◌ {A = ℕ} 0 1 = cc in absurd (omega arith)
differs_from (differ x y ∷ E) F zero d a b l e = (cc, cc)
differs_from (same x y ∷ E) F (suc i) d a b l e = differs_from E F i d a b (omega arith) e
differs_from (differ x y ∷ E) F (suc i) d a b l e = differs_from E F i d a b (omega arith) e

pub differs_at : (rs : List ℕ) (es : List Told) (F : List Entry) (i : ℕ) (d : Told) → i < length es → broken rs (get_or es i d) ≡ true →
    Differs (suc i) (taken es ++ F) (left_of (get_or es i d)) (right_of (get_or es i d))
differs_at rs es F i d l h =
    differs_from (taken es) F i (entry_of d) (left_of (get_or es i d)) (right_of (get_or es i d)) (omega (arith, l, length-map es entry_of))
    (get_or-map entry_of es i d (entry_of d) l ∙ is_differ rs (get_or es i d) h)

pub differs_last : (E : List Entry) (a b : ℕ) → Differs (suc (length E)) (E ++ differ a b ∷ []) a b
differs_last [] a b = (refl, refl)
differs_last (same x y ∷ E) a b = differs_last E a b
differs_last (differ x y ∷ E) a b = differs_last E a b

-- both pictures of each entry are on the sheet
pub inside : (n : ℕ) (P : List Picture) (es : List Told) → n ≡ length P → All (Placed P) (taken es) → All (Inside n) es
inside n P [] e p = All-nil (Inside n)
inside n P (Same a b ∷ es) e p =
    let on = All-head (Placed P) (same a b) (taken es) p in
    All-cons (Inside n) (Same a b) es ((on.0.0, omega (arith, on.0.1, e)), (on.1.0, omega (arith, on.1.1, e))) (inside n P es e (All-tail (Placed P) (same a b) (taken es) p))
inside n P (Differ a b ∷ es) e p =
    let on = All-head (Placed P) (differ a b) (taken es) p in
    All-cons (Inside n) (Differ a b) es ((on.0.0, omega (arith, on.0.1, e)), (on.1.0, omega (arith, on.1.1, e))) (inside n P es e (All-tail (Placed P) (differ a b) (taken es) p))

-- THE CHECKS OF AN ENTRY
module _ (cap : ℕ) (s : Content) (e : Entry) (cells n taken-so-far a b : ℕ) (en : n ≡ length s.pictures) (et : taken-so-far ≡ length s.entries)
    (to : Placed s.pictures e → On s.pictures a × On s.pictures b) (from : On s.pictures a → On s.pictures b → Placed s.pictures e) where
  on_both : Both n a b → On s.pictures a × On s.pictures b
  on_both h = ((h.0.0, omega (arith, h.0.1, en)), (h.1.0, omega (arith, h.1.1, en)))

  both_on : On s.pictures a × On s.pictures b → Both n a b
  both_on h = ((h.0.0, omega (arith, h.0.1, en)), (h.1.0, omega (arith, h.1.1, en)))

  pub stopped : (f : SheetFault) → Stopped cells n taken-so-far a b f → Answers cap s (tell e cells) (refused (refusal_of f))
  stopped FewCells h = inl (h, refl)
  stopped NoPicture h = inr ((λ l. omega (arith, l, h.0)), inl ((λ p. h.1 (both_on (to p))), refl))
  stopped Full h = inr ((λ l. omega (arith, l, h.0)), inr ((λ q. let o = on_both h.1 in q (from o.0 o.1)), inl (omega (arith, h.2, et), refl)))
  stopped (Contradiction c) h = absurd h
  stopped Inputs h = absurd h
  stopped Apart h = absurd h

  pub passed : (r : Answer) → Passed cells n taken-so-far a b →
      ((Impossible s e × Contradicted s.pictures (s.entries ++ (e ∷ [])) r) ⊎ ((¬ Impossible s e) × Taken s.pictures s.entries e r)) → Answers cap s (tell e cells) r
  passed r h next = inr ((λ l. omega (arith, l, h.enough)), inr ((λ q. let o = on_both h.both in q (from o.0 o.1)), inr ((λ l. omega (arith, l, h.place, et)), next)))

  pub passed_on : Passed cells n taken-so-far a b → On s.pictures a × On s.pictures b
  passed_on h = on_both h.both

-- a broken entry has two pictures with one representative
pub broken_one : (rs : List ℕ) (e : Told) → broken rs e ≡ true → rep rs (left_of e) ≡ rep rs (right_of e)
broken_one rs (Same a b) h = absurd (both_ways false refl h)
broken_one rs (Differ a b) h = eqb-true (rep rs a) (rep rs b) h

pub placed_ends : (P : List Picture) (es : List Told) (i : ℕ) (d : Told) → i < length es → All (Placed P) (taken es) → On P (left_of (get_or es i d)) × On P (right_of (get_or es i d))
placed_ends P [] i d l p = absurd (omega arith)
placed_ends P (Same a b ∷ es) zero d l p = All-head (Placed P) (same a b) (taken es) p
placed_ends P (Differ a b ∷ es) zero d l p = All-head (Placed P) (differ a b) (taken es) p
placed_ends P (Same a b ∷ es) (suc i) d l p = placed_ends P es i d (omega arith) (All-tail (Placed P) (same a b) (taken es) p)
placed_ends P (Differ a b ∷ es) (suc i) d l p = placed_ends P es i d (omega arith) (All-tail (Placed P) (differ a b) (taken es) p)
