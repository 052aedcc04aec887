-- Each call has an answer, and one only apart from the steps of its chain. Assumes nothing.
use Rattle.std.proofs.Common.{◌≡◌, ℕ, zero, suc, ◌+◌, ◌-◌, ◌≤◌, true, false, ◌⊎◌, List, [], ◌∷◌, ◌++◌, length, All, sym, refl, ap, ◌∙◌, subst, inl, inr, ⊎_elim, arith, length-append}
use native.Mathlib.Decide.{dec_le, ℕ_discrete}
use Rattle.std.proofs.lemmas.List.Elements.{All-weaker, All-push, All-cons, All-head, All-nil, All-tail}
use Rattle.theory.specs.Sheet.{Picture, Entry, same, differ, On, Placed, Proper, Closure, Lowest, Counts, Classes, First, Breaks, Broken, Bears, Applies}
use Rattle.theory.specs.Calls.{Call, add, tell, must, why, lock, reopen, value, apply, Refusal, few_cells, no_picture, full, contradiction, many_inputs, apart, Answer, added, joined, noted, told, explained, turned, valued, refused, Content, with_picture, Unless, Impossible, Differs, Contradicted, Taken, Answers, apart_from_steps, Alike, AnswerLaw, AlikeLaw}
use Rattle.theory.proofs.Closed.{c_refl, lowest_same}
use Rattle.theory.proofs.Settled.{known_all, explained_by}
use Rattle.theory.proofs.Laws.{dec_on, find, broken_none, dec_joined, dec_closure, locked, locked_locked, locked-satisfies}
use Rattle.theory.proofs.Small.{classes_law}
use Rattle.theory.proofs.Growing.{placed_more, ordered_more}
use Rattle.theory.proofs.Small.{closure_more}

-- DECISIONS
dec_not : (A : Type 0) → Dec A → Dec (¬ A)
dec_not A (yes a) = no (λ n. n a)
dec_not A (no n) = yes n

dec_and : (A B : Type 0) → Dec A → Dec B → Dec (A × B)
dec_and A B (yes a) (yes b) = yes (a, b)
dec_and A B (yes a) (no n) = no (λ h. n h.1)
dec_and A B (no n) d = no (λ h. n h.0)

dec_or : (A B : Type 0) → Dec A → Dec B → Dec (A ⊎ B)
dec_or A B (yes a) d = yes (inl a)
dec_or A B (no n) (yes b) = yes (inr b)
dec_or A B (no n) (no m) = no (λ h. ⊎_elim n m h)

dec_all : (P : List Picture) (ps : List ℕ) → Dec (All (On P) ps)
dec_all P [] = yes (All-nil _)
dec_all P (p ∷ ps) = go (dec_on P p) (dec_all P ps)
  where
    go : Dec (On P p) → Dec (All (On P) ps) → Dec (All (On P) (p ∷ ps))
    go (yes a) (yes b) = yes (All-cons (On P) p ps a b)
    go (yes a) (no n) = no (λ h. n (All-tail (On P) p ps h))
    go (no n) d = no (λ h. n (All-head (On P) p ps h))

dec_placed : (P : List Picture) (e : Entry) → Dec (Placed P e)
dec_placed P (same a b) = dec_and (On P a) (On P b) (dec_on P a) (dec_on P b)
dec_placed P (differ a b) = dec_and (On P a) (On P b) (dec_on P a) (dec_on P b)

sure : (A : Type 0) → Dec A → ¬ ¬ A → A
sure A (yes a) n = a
sure A (no m) n = absurd (n m)

-- one check more
check : (bad : Type 0) (f : Refusal) (next : Answer → Type 0) → Dec bad → (¬ bad → (r : Answer) × next r) → (r : Answer) × Unless bad f r (next r)
check bad f next (yes b) k = (refused f, inl (b, refl))
check bad f next (no n) k = let x = k n in (x.0, inr (n, x.1))

agree : (bad : Type 0) (f : Refusal) (r q : Answer) (A B : Type 0) → (A → B → Alike r q) → Unless bad f r A → Unless bad f q B →
    Alike r q
agree bad f r q A B k (inl x) (inl y) = inl (x.1 ∙ sym y.1)
agree bad f r q A B k (inl x) (inr y) = absurd (y.0 x.0)
agree bad f r q A B k (inr x) (inl y) = absurd (x.0 y.0)
agree bad f r q A B k (inr x) (inr y) = k x.1 y.1

-- THE BROKEN ENTRY
first_one : {X : Type 0} (Q : X → Type 0) (xs : List X) (j k : ℕ) → First Q j xs → First Q k xs → j ≡ k
first_one Q [] j k a b = absurd a
first_one Q (x ∷ xs) zero k a b = absurd a
first_one Q (x ∷ xs) (suc j) zero a b = absurd b
first_one Q (x ∷ xs) (suc zero) (suc zero) a b = refl
first_one Q (x ∷ xs) (suc zero) (suc (suc k)) a b = absurd (b.0 a)
first_one Q (x ∷ xs) (suc (suc j)) (suc zero) a b = absurd (a.0 b)
first_one Q (x ∷ xs) (suc (suc j)) (suc (suc k)) a b = ap suc (first_one Q xs (suc j) (suc k) a.1 b.1)

pub first_pair : (P : List Picture) (E F : List Entry) (k : ℕ) → First (Breaks P E) k F → (a b : ℕ) × Differs k F a b × Closure P E a b
first_pair P E [] k h = absurd h
first_pair P E (e ∷ F) zero h = absurd h
first_pair P E (same a b ∷ F) (suc zero) h = absurd h
first_pair P E (differ a b ∷ F) (suc zero) h = (a, b, (refl, refl), h)
first_pair P E (e ∷ F) (suc (suc k)) h = first_pair P E F (suc k) h.1

-- FEWER CLASSES WITH ONE ENTRY MORE
counts_le : (Q R : ℕ → Type 0) → ((p : ℕ) → R p → Q p) → (n j k : ℕ) → Counts Q n j → Counts R n k → k ≤ j
counts_le Q R h zero j k a b = omega (arith, a, b)
counts_le Q R h (suc n) j k (inl a) (inl b) = omega (arith, a.1.1, b.1.1, counts_le Q R h n _ _ a.1.2 b.1.2)
counts_le Q R h (suc n) j k (inl a) (inr b) = omega (arith, a.1.1, counts_le Q R h n _ _ a.1.2 b.1)
counts_le Q R h (suc n) j k (inr a) (inl b) = absurd (a.0 (h (suc n) b.0))
counts_le Q R h (suc n) j k (inr a) (inr b) = counts_le Q R h n _ _ a.1 b.1

lowest_fewer : (P : List Picture) (E : List Entry) (e : Entry) (p : ℕ) → Lowest P (E ++ (e ∷ [])) p p → Lowest P E p p
lowest_fewer P E e p l = (c_refl P E p l.0.0, λ q c. l.1 q (closure_more P E e p q c))

module _ (cap : ℕ) (s : Content) (w : Proper s.pictures s.entries) where
  abbrev P : List Picture
  P = s.pictures

  abbrev E : List Entry
  E = s.entries

  lowest_one : (p m n : ℕ) → Lowest P E p m → Lowest P E p n → m ≡ n
  lowest_one p m n a b = lowest_same P E p p m n (c_refl P E p a.0.0) a b

  applies_one : (o : ℕ) (xs : List ℕ) (v u : ℕ) → Applies P E o xs v → Applies P E o xs u → v ≡ u
  applies_one o xs v u a b = go (ℕ_discrete v u)
    where
      go : Dec (v ≡ u) → v ≡ u
      go (yes e) = e
      go (no n) =
          let none : (p : ℕ) → ¬ Bears P E o xs p = λ p h. n (lowest_one p v u (a.0 p h) (b.0 p h)) in
          a.1 none ∙ sym (b.1 none)

  -- an entry that is placed
  module _ (e : Entry) (on : Placed P e) where
    abbrev F : List Entry
    F = E ++ (e ∷ [])

    proper : Proper P F
    proper = (w.0, All-push (Placed P) E e w.1 on)

    contradicted : (k : ℕ) → Broken P F k → (r : Answer) × ((Impossible s e × Contradicted P F r) ⊎ ((¬ Impossible s e) × Taken P E e r))
    contradicted k b =
        let d = first_pair P F F k b in
        let x = explained_by P F proper d.0 d.1 d.3 in
        (refused (contradiction k (length x.0)), inl (broken_none P F w.0 k b, (k, length x.0, d.0, d.1, b, d.2, (x.0, x.1, refl), refl)))

    taken : (e : Entry) → Proper P (E ++ (e ∷ [])) → (r : Answer) × Taken P E e r
    taken (same a b) v =
        let m = classes_law P E w in
        let n = classes_law P (E ++ (same a b ∷ [])) v in
        let le = counts_le _ _ (lowest_fewer P E (same a b)) (length P) m.0 n.0 m.1 n.1 in
        (joined (length E + 1) (m.0 - n.0), (m.0 - n.0, n.0, subst (Classes P E) (whole m.0 n.0 le) m.1, n.1, refl))
      where
        whole : (m n : ℕ) → n ≤ m → m ≡ n + (m - n)
        whole m n h = omega arith
    taken (differ a b) v = (noted (length E + 1), refl)

    entered : (r : Answer) × ((Impossible s e × Contradicted P F r) ⊎ ((¬ Impossible s e) × Taken P E e r))
    entered = go (find (Breaks P F) F (dec_joined P F (known_all P F proper) F proper.1))
      where
        go : ((k : ℕ) × Broken P F k) ⊎ ((k : ℕ) → ¬ Broken P F k) → (r : Answer) × ((Impossible s e × Contradicted P F r) ⊎ ((¬ Impossible s e) × Taken P E e r))
        go (inl b) = contradicted b.0 b.1
        go (inr n) =
            let t = taken e proper in
            (t.0, inr ((λ i. i (locked P F (known_all P F proper)) (locked-satisfies P F proper _ (locked_locked P F (known_all P F proper)) n)), t.1))

    one-taken : (e : Entry) (r q : Answer) → Proper P (E ++ (e ∷ [])) → Taken P E e r → Taken P E e q → r ≡ q
    one-taken (same a b) r q v t u =
        let m = (classes_law P E w).2 in
        let n = (classes_law P (E ++ (same a b ∷ [])) v).2 in
        t.4 ∙ ap (joined (length E + 1)) (drop (m _ t.2 ∙ sym (m _ u.2)) (n _ t.3 ∙ sym (n _ u.3))) ∙ sym u.4
      where
        drop : t.1 + t.0 ≡ u.1 + u.0 → t.1 ≡ u.1 → t.0 ≡ u.0
        drop x y = omega (arith, x, y)
    one-taken (differ a b) r q v t u = t ∙ sym u

    one_entry : (r q : Answer) → (Impossible s e × Contradicted P F r) ⊎ ((¬ Impossible s e) × Taken P E e r) → (Impossible s e × Contradicted P F q) ⊎ ((¬ Impossible s e) × Taken P E e q) →
        Alike r q
    one_entry r q (inl x) (inl y) =
        let e = first_one (Breaks P F) F x.1.0 y.1.0 x.1.4 y.1.4 in
        inr (inr (y.1.0, x.1.1, y.1.1, x.1.7 ∙ ap (λ k. refused (contradiction k x.1.1)) e, y.1.7))
    one_entry r q (inl x) (inr y) = absurd (y.0 x.0)
    one_entry r q (inr x) (inl y) = absurd (x.0 y.0)
    one_entry r q (inr x) (inr y) = inl (one-taken e r q proper x.1 y.1)

  some_answer : (c : Call) → (r : Answer) × Answers cap s c r
  some_answer (add o is) =
      check _ many_inputs _ (dec_le 5 (length is)) (λ few. check _ no_picture _ (dec_not _ (dec_all P is)) (λ on. check _ full _ (dec_or _ _ (dec_le 1024 (length P)) (dec_le cap (length P))) (λ room.
      let x : Picture = record { operation = o; inputs = is } in
      let all = sure _ (dec_all P is) on in
      let v : Proper (P ++ (x ∷ [])) E = (ordered_more P x w.0 (omega (arith, few)) all, All-weaker _ _ (placed_more P x) E w.1) in
      let k = known_all (P ++ (x ∷ [])) E v (length P + 1) (omega arith, last x) in
      (added (length P + 1) k.0, (k.0, k.1, refl)))))
    where
      last : (x : Picture) → length P + 1 ≤ length (P ++ (x ∷ []))
      last x = omega (arith, length-append P (x ∷ []))
  some_answer (tell e cells) =
      check _ few_cells _ (dec_le (suc cells) 1024) (λ enough. check _ no_picture _ (dec_not _ (dec_placed P e)) (λ on. check _ full _ (dec_le 2048 (length E)) (λ room.
      entered e (sure _ (dec_placed P e) on))))
  some_answer (must a b) = check _ no_picture _ (dec_not _ (dec_and _ _ (dec_on P a) (dec_on P b))) (λ on. go (dec_closure P E (known_all P E w) a b (both on).0 (both on).1))
    where
      both : ¬ ¬ (On P a × On P b) → On P a × On P b
      both n = sure _ (dec_and _ _ (dec_on P a) (dec_on P b)) n

      go : Dec (Closure P E a b) → (r : Answer) × ((Closure P E a b × (r ≡ told true)) ⊎ ((¬ Closure P E a b) × (r ≡ told false)))
      go (yes c) = (told true, inl (c, refl))
      go (no n) = (told false, inr (n, refl))
  some_answer (why a b cells) =
      check _ few_cells _ (dec_le (suc cells) 1024) (λ enough. check _ no_picture _ (dec_not _ (dec_and _ _ (dec_on P a) (dec_on P b))) (λ on. check _ apart _ (dec_not _ (dec on)) (λ c.
      let x = explained_by P E w a b (sure _ (dec on) c) in
      (explained (length x.0), (length x.0, (x.0, x.1, refl), refl)))))
    where
      dec : ¬ ¬ (On P a × On P b) → Dec (Closure P E a b)
      dec n = let on = sure _ (dec_and _ _ (dec_on P a) (dec_on P b)) n in dec_closure P E (known_all P E w) a b on.0 on.1
  some_answer lock = (turned, refl)
  some_answer reopen = (turned, refl)
  some_answer (value p) =
      check _ no_picture _ (dec_not _ (dec_on P p)) (λ on. let k = known_all P E w p (sure _ (dec_on P p) on) in (valued k.0, (k.0, k.1, refl)))
  some_answer (apply o xs) =
      check _ many_inputs _ (dec_le 5 (length xs)) (λ few.
      let r = locked P E (known_all P E w) in
      (valued (r o xs), (r o xs, locked_locked P E (known_all P E w) o xs (omega (arith, few)), refl)))

  one_answer : (c : Call) (r q : Answer) → Answers cap s c r → Answers cap s c q → Alike r q
  one_answer (add o is) r q x y = agree _ _ r q _ _ (agree _ _ r q _ _ (agree _ _ r q _ _ (λ m n.
      let P' = (with_picture s o is).pictures in
      inl (m.2 ∙ ap (added (length P + 1)) (lowest_same P' E _ _ _ _ (c_refl P' E _ m.1.0.0) m.1 n.1) ∙ sym n.2)))) x y
  one_answer (tell e cells) r q x y = agree _ _ r q _ _ go x y
    where
      go : Unless (¬ Placed P e) no_picture r (Unless (2048 ≤ length E) full r ((Impossible s e × Contradicted P (E ++ (e ∷ [])) r) ⊎ ((¬ Impossible s e) × Taken P E e r))) →
          Unless (¬ Placed P e) no_picture q (Unless (2048 ≤ length E) full q ((Impossible s e × Contradicted P (E ++ (e ∷ [])) q) ⊎ ((¬ Impossible s e) × Taken P E e q))) →
          Alike r q
      go (inl x) (inl y) = inl (x.1 ∙ sym y.1)
      go (inl x) (inr y) = absurd (y.0 x.0)
      go (inr x) (inl y) = absurd (x.0 y.0)
      go (inr x) (inr y) = agree _ _ r q _ _ (one_entry e (sure _ (dec_placed P e) x.0) r q) x.1 y.1
  one_answer (must a b) r q x y = agree _ _ r q _ _ go x y
    where
      go : (Closure P E a b × (r ≡ told true)) ⊎ ((¬ Closure P E a b) × (r ≡ told false)) → (Closure P E a b × (q ≡ told true)) ⊎ ((¬ Closure P E a b) × (q ≡ told false)) →
          Alike r q
      go (inl x) (inl y) = inl (x.1 ∙ sym y.1)
      go (inl x) (inr y) = absurd (y.0 x.0)
      go (inr x) (inl y) = absurd (x.0 y.0)
      go (inr x) (inr y) = inl (x.1 ∙ sym y.1)
  one_answer (why a b cells) r q x y = agree _ _ r q _ _ (agree _ _ r q _ _ (agree _ _ r q _ _ (λ m n. inr (inl (m.0, n.0, m.2, n.2))))) x y
  one_answer lock r q x y = inl (x ∙ sym y)
  one_answer reopen r q x y = inl (x ∙ sym y)
  one_answer (value p) r q x y = agree _ _ r q _ _ (λ m n. inl (m.2 ∙ ap valued (lowest_one p _ _ m.1 n.1) ∙ sym n.2)) x y
  one_answer (apply o xs) r q x y = agree _ _ r q _ _ (λ m n. inl (m.2 ∙ ap valued (applies_one o xs _ _ m.1 n.1) ∙ sym n.2)) x y

pub alike_law : AlikeLaw
alike_law cap s w c = one_answer cap s w c

alike_apart : (r q : Answer) → Alike r q → apart_from_steps r ≡ apart_from_steps q
alike_apart r q (inl e) = ap apart_from_steps e
alike_apart r q (inr (inl (m, n, a, b))) = ap apart_from_steps a ∙ sym (ap apart_from_steps b)
alike_apart r q (inr (inr (k, m, n, a, b))) = ap apart_from_steps a ∙ sym (ap apart_from_steps b)

pub answer_law : AnswerLaw
answer_law cap s w c = (some_answer cap s w c, λ r q x y. alike_apart r q (one_answer cap s w c r q x y))
