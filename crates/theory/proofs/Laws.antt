-- The three laws. Assumes nothing.
use Rattle.std.proofs.Common.{◌≡◌, ℕ, zero, suc, ◌<◌, ◌≤◌, ◌⊎◌, List, [], ◌∷◌, map, length, All, sym, refl, ◌∙◌, subst, inl, inr, arith}
use native.Mathlib.Decide.{ℕ_discrete, dec_le}
use lib.ListN.{length-map}
use Rattle.std.specs.List.{AllZip}
use Rattle.std.proofs.lemmas.List.Elements.{All-weaker, All-cons, All-head, All-nil, All-tail}
use Rattle.theory.specs.Sheet.{Picture, Entry, same, differ, Reading, On, Ordered, Placed, Proper, value, value_to, operation, inputs, Holds, Satisfies, Keeps, Closure, Lowest, First, Breaks, Broken, Bears, Locked}
use Rattle.theory.specs.Statements.{Known, Satisfiable, ContradictionLaw, MustLaw, LockedLaw}
use Rattle.theory.proofs.Values.{sound}
use Rattle.theory.proofs.Settled.{known_all}
use Rattle.theory.proofs.Closed.{c_refl, c_twins, c_keeps, lowest_same, lowest_joins, lowest_moves, each_joins}
use Rattle.theory.proofs.Each.{uncons, dec_zip}

-- LISTS. If Q is nowhere first, it is nowhere
later : {X : Type 0} (Q : X → Type 0) (k : ℕ) (x : X) (xs : List X) → ¬ Q x → First Q k xs → First Q (suc k) (x ∷ xs)
later Q k x [] n f = absurd f
later Q zero x (y ∷ ys) n f = absurd f
later Q (suc k) x (y ∷ ys) n f = (n, f)

pub nowhere : {X : Type 0} (Q : X → Type 0) (xs : List X) → ((k : ℕ) → ¬ First Q k xs) → All (λ x. ¬ Q x) xs
nowhere Q [] h = All-nil _
nowhere Q (x ∷ xs) h = All-cons (λ y. ¬ Q y) x xs (h 1) (nowhere Q xs (λ k f. h (suc k) (later Q k x xs (h 1) f)))

-- the first place, if there is one
pub find : {X : Type 0} (Q : X → Type 0) (xs : List X) → All (λ x. Dec (Q x)) xs → ((k : ℕ) × First Q k xs) ⊎ ((k : ℕ) → ¬ First Q k xs)
find Q [] d = inr (λ k f. f)
find {X} Q (x ∷ xs) d = let e = uncons (λ y. Dec (Q y)) x xs d in go e.0 (find Q xs e.1)
  where
    rest : ¬ Q x → ((k : ℕ) → ¬ First Q k xs) → (k : ℕ) → ¬ First Q k (x ∷ xs)
    rest n h zero f = f
    rest n h (suc zero) f = n f
    rest n h (suc (suc k)) f = h (suc k) f.1

    go : Dec (Q x) → ((k : ℕ) × First Q k xs) ⊎ ((k : ℕ) → ¬ First Q k xs) → ((k : ℕ) × First Q k (x ∷ xs)) ⊎ ((k : ℕ) → ¬ First Q k (x ∷ xs))
    go (yes q) s = inl (1, q)
    go (no n) (inl t) = inl (suc t.0, later Q t.0 x xs n t.1)
    go (no n) (inr h) = inr (rest n h)

clash : {X : Type 0} (Q H : X → Type 0) → ((x : X) → Q x → ¬ H x) → (k : ℕ) (xs : List X) → First Q k xs → ¬ All H xs
clash Q H c k [] f h = f
clash Q H c zero (x ∷ xs) f h = f
clash Q H c (suc zero) (x ∷ xs) f h = c x f (All-head H x xs h)
clash Q H c (suc (suc k)) (x ∷ xs) f h = clash Q H c (suc k) xs f.1 (All-tail H x xs h)

-- a broken entry leaves no reading
pub broken_none : (P : List Picture) (E : List Entry) → Ordered P → (k : ℕ) → Broken P E k → (r : Reading) → ¬ Satisfies r P E
broken_none P E o k b r s = clash (Breaks P E) (Holds r P) no_both k E b s
  where
    no_both : (e : Entry) → Breaks P E e → ¬ Holds r P e
    no_both (same a b) j h = j
    no_both (differ a b) j h = h (sound P E o a b j r s)

-- THE LOCKED READING, whatever function has its law
module _ (P : List Picture) (E : List Entry) (w : Proper P E) where
  each_values : (f : ℕ → ℕ) (xs : List ℕ) → All (λ i. Lowest P E i (f i)) xs → AllZip (Lowest P E) xs (map f xs)
  each_values f [] h = tt
  each_values f (x ∷ xs) h = let k = uncons (λ i. Lowest P E i (f i)) x xs h in (k.0, each_values f xs k.1)

  module _ (r : Reading) (l : Locked P E r) where
    lowest-to : (d p : ℕ) → On P p → p ≤ d → Lowest P E p (value_to r P d p)
    lowest-to zero p on h = absurd (omega arith)
    lowest-to (suc d) p on h =
        (l (operation P p) (map (value_to r P d) (inputs P p)) few).0 p (
          on,
          refl,
          each_values (value_to r P d) (inputs P p)
              (All-weaker (λ i. (1 ≤ i) × (i < p)) (λ i. Lowest P E i (value_to r P d i)) (λ i b. lowest-to d i (b.0, omega arith) (omega arith)) (inputs P p) (w.0 p on).1),
        )
      where
        few : length (map (value_to r P d) (inputs P p)) ≤ 4
        few = subst (λ n. n ≤ 4) (sym (length-map (inputs P p) (value_to r P d))) (w.0 p on).0

    pub locked-lowest : (p : ℕ) → On P p → Lowest P E p (value r P p)
    locked-lowest p on = lowest-to p p on (omega arith)

    pub locked-joins : (a b : ℕ) → On P a → On P b → value r P a ≡ value r P b → Closure P E a b
    locked-joins a b oa ob e =
        lowest_joins P E a b (value r P a) (locked-lowest a oa) (subst (λ m. Lowest P E b m) (sym e) (locked-lowest b ob))

    holds : (F : List Entry) → All (Placed P) F → All (Keeps (Closure P E)) F → All (λ e. ¬ Breaks P E e) F → All (Holds r P) F
    holds [] p k n = All-nil _
    holds (same a b ∷ F) p k n =
        let o = uncons (Placed P) (same a b) F p in
        let c = uncons (Keeps (Closure P E)) (same a b) F k in
        All-cons (Holds r P) (same a b) F (lowest_same P E a b _ _ c.0 (locked-lowest a o.0.0) (locked-lowest b o.0.1))
        (holds F o.1 c.1 (All-tail (λ e. ¬ Breaks P E e) (same a b) F n))
    holds (differ a b ∷ F) p k n =
        let o = uncons (Placed P) (differ a b) F p in
        let m = uncons (λ e. ¬ Breaks P E e) (differ a b) F n in
        All-cons (Holds r P) (differ a b) F (λ e. m.0 (locked-joins a b o.0.0 o.0.1 e)) (holds F o.1 (All-tail (Keeps (Closure P E)) (differ a b) F k) m.1)

    pub locked-satisfies : ((k : ℕ) → ¬ Broken P E k) → Satisfies r P E
    locked-satisfies n = holds E w.1 (c_keeps P E w.1) (nowhere (Breaks P E) E n)

pub dec_on : (P : List Picture) (p : ℕ) → Dec (On P p)
dec_on P p = go (dec_le 1 p) (dec_le p (length P))
  where
    go : Dec (1 ≤ p) → Dec (p ≤ length P) → Dec (On P p)
    go (yes a) (yes b) = yes (a, b)
    go (yes a) (no b) = no (λ h. b h.1)
    go (no a) d = no (λ h. a h.0)

-- THERE IS ONE, where each class has its lowest number
module _ (P : List Picture) (E : List Entry) (known : Known P E) where
  dec_lowest : (p m : ℕ) → Dec (Lowest P E p m)
  dec_lowest p m = go (dec_on P p)
    where
      at : (on : On P p) → Dec ((known p on).0 ≡ m) → Dec (Lowest P E p m)
      at on (yes e) = yes (subst (λ k. Lowest P E p k) e (known p on).1)
      at on (no n) = no (λ l. n (lowest_same P E p p _ _ (c_refl P E p on) (known p on).1 l))

      go : Dec (On P p) → Dec (Lowest P E p m)
      go (yes on) = at on (ℕ_discrete (known p on).0 m)
      go (no n) = no (λ l. n l.0.0)

  pub dec_closure : (a b : ℕ) → On P a → On P b → Dec (Closure P E a b)
  dec_closure a b oa ob = go (ℕ_discrete (known a oa).0 (known b ob).0)
    where
      go : Dec ((known a oa).0 ≡ (known b ob).0) → Dec (Closure P E a b)
      go (yes e) = yes (lowest_joins P E a b (known a oa).0 (known a oa).1 (subst (λ m. Lowest P E b m) (sym e) (known b ob).1))
      go (no n) = no (λ c. n (lowest_same P E a b _ _ c (known a oa).1 (known b ob).1))

  pub dec_joined : (F : List Entry) → All (Placed P) F → All (λ e. Dec (Breaks P E e)) F
  dec_joined [] p = All-nil _
  dec_joined (same a b ∷ F) p =
      All-cons (λ e. Dec (Breaks P E e)) (same a b) F (no (λ h. h)) (dec_joined F (All-tail (Placed P) (same a b) F p))
  dec_joined (differ a b ∷ F) p =
      let o = uncons (Placed P) (differ a b) F p in
      All-cons (λ e. Dec (Breaks P E e)) (differ a b) F (dec_closure a b o.0.0 o.0.1) (dec_joined F o.1)

  module _ (o : ℕ) (xs : List ℕ) where
    dec-bears : (p : ℕ) → On P p → Dec (Bears P E o xs p)
    dec-bears p on = go (ℕ_discrete (operation P p) o) (dec_zip (Lowest P E) dec_lowest (inputs P p) xs)
      where
        go : Dec (operation P p ≡ o) → Dec (AllZip (Lowest P E) (inputs P p) xs) → Dec (Bears P E o xs p)
        go (yes a) (yes b) = yes (on, a, b)
        go (yes a) (no b) = no (λ h. b h.2)
        go (no a) d = no (λ h. a h.1)

    -- two bearers of one operation and one row are twins
    bearers : (p q : ℕ) → Bears P E o xs p → Bears P E o xs q → Closure P E p q
    bearers p q b c = c_twins P E p q b.0 c.0 (b.1 ∙ sym c.1, each_joins P E (inputs P p) (inputs P q) xs b.2 c.2)

    -- the answer among the first k pictures
    Answer : ℕ → ℕ → Type 0
    Answer k v = ((p : ℕ) → p ≤ k → Bears P E o xs p → Lowest P E p v) × (((p : ℕ) → ¬ Bears P E o xs p) → v ≡ 0)

    seek : (k : ℕ) → k ≤ length P → (v : ℕ) × Answer k v
    unfolding Answer
    seek zero h = (0, (λ p l b. absurd (none b.0.0 l), λ _. refl))
      where
        none : {p : ℕ} → 1 ≤ p → p ≤ 0 → ⊥
        none a b = omega arith
    seek (suc k) h = go (dec-bears (suc k) on) (seek k (omega arith))
      where
        on : On P (suc k)
        on = (omega arith, h)

        last : (p : ℕ) → p ≤ suc k → ¬ (p ≤ k) → p ≡ suc k
        last p a b = omega arith

        go : Dec (Bears P E o xs (suc k)) → (v : ℕ) × Answer k v → (v : ℕ) × Answer (suc k) v
        go (yes b) s =
            ((known (suc k) on).0, (λ p _ c. lowest_moves P E p (suc k) _ (bearers p (suc k) c b) (known (suc k) on).1, λ n. absurd (n (suc k) b)))
        go (no n) s = (s.0, (λ p l c. pick p l c (dec_le p k), s.1.1))
          where
            pick : (p : ℕ) → p ≤ suc k → Bears P E o xs p → Dec (p ≤ k) → Lowest P E p s.0
            pick p l c (yes m) = s.1.0 p m c
            pick p l c (no m) = absurd (n (subst (λ q. Bears P E o xs q) (last p l m) c))

  pub locked : Reading
  locked o xs = (seek o xs (length P) (omega arith)).0

  pub locked_locked : Locked P E locked
  unfolding locked Answer
  locked_locked o xs _ =
      let s = (seek o xs (length P) (omega arith)).1 in
      (λ p b. s.0 p b.0.1 b, s.1)

pub contradiction_law : ContradictionLaw
contradiction_law P E w = (λ h. go h (find (Breaks P E) E (dec_joined P E known E w.1)), λ kb. broken_none P E w.0 kb.0 kb.1)
  where
    known : Known P E
    known = known_all P E w

    go : ((r : Reading) → ¬ Satisfies r P E) → ((k : ℕ) × Broken P E k) ⊎ ((k : ℕ) → ¬ Broken P E k) → (k : ℕ) × Broken P E k
    go h (inl kb) = kb
    go h (inr n) = absurd (h (locked P E known) (locked-satisfies P E w (locked P E known) (locked_locked P E known) n))

-- entries that some reading satisfies are not broken
unbroken : (P : List Picture) (E : List Entry) → Ordered P → Satisfiable P E → (k : ℕ) → ¬ Broken P E k
unbroken P E o can k b = broken_none P E o k b can.0 can.1

pub must_law : MustLaw
must_law P E w can a b oa ob = (λ c r s. sound P E w.0 a b c r s, λ h. back (h (locked P E known) (locked-satisfies P E w (locked P E known) (locked_locked P E known) (unbroken P E w.0 can))))
  where
    known : Known P E
    known = known_all P E w

    back : value (locked P E known) P a ≡ value (locked P E known) P b → Closure P E a b
    back e = locked-joins P E w (locked P E known) (locked_locked P E known) a b oa ob e

pub locked_law : LockedLaw
locked_law P E w can = (
  (locked P E (known_all P E w), locked_locked P E (known_all P E w)),
  λ r l. (
    λ p on. locked-lowest P E w r l p on,
    locked-satisfies P E w r l (unbroken P E w.0 can),
    λ a b oa ob e s h. sound P E w.0 a b (locked-joins P E w r l a b oa ob e) s h,
  ),
)
