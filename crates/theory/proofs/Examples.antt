-- The worked examples, by one test that the checker computes. Assumes nothing.
use Rattle.std.proofs.Common.{◌≡◌, ℕ, zero, suc, ◌+◌, ◌-◌, ◌<◌, ◌≤◌, Bool, true, false, cond, not, ◌&&◌, ◌||◌, eqb, leb, ◌⊎◌, List, [], ◌∷◌, ◌++◌, map, length, All, refl, subst, inl, inr, ⊎_elim, arith}
use Rattle.std.specs.List.{AllZip, AllByRecursion}
use Rattle.std.proofs.lemmas.List.Elements.{All-weaker, All-from_recursion, All-head, All-tail}
use Rattle.std.proofs.lemmas.Bool.{eq-eqb, eqb-true, eqb-false, leb-true, leb-false, le-leb, and_parts, and_from, or_cases, or_parts, both_ways, not-true, not-false}
use Rattle.theory.specs.Sheet.{Picture, Entry, same, differ, Reading, On, Proper, Placed, operation, inputs, Satisfies, Closure, Lowest, Counts, Classes, First, Breaks, Broken, Bears, Applies}
use Rattle.theory.specs.Statements.{Known}
use Rattle.theory.specs.Reasons.{Reason, by_entry, by_twins, left, right}
use Rattle.theory.specs.Calls.{Call, add, tell, must, why, lock, reopen, value, apply, Refusal, few_cells, no_picture, full, contradiction, many_inputs, apart, Answer, added, joined, noted, told, explained, turned, valued, refused, Content, empty, with_picture, Stands, Unless, Differs, Impossible, Shown, Contradicted, Taken, Answers, after}
use Rattle.theory.specs.Runs.{Goes, leaves}
use Rattle.theory.specs.Examples.{Example, examples, ExamplesLaw}
use Rattle.theory.specs.Samples.{Sample, samples, SamplesLaw}
use Rattle.theory.proofs.Closed.{c_refl, lowest_same, lowest_joins}
use Rattle.theory.proofs.Naive.{label, eqs, merge, upto, each?, on?, placed?, proper?, closed?, close, fresh, placed_from, proper_from, lowest-label, upto_at, each_at, on_on, inputs_on, good-close, some_upto}
use Rattle.theory.proofs.Laws.{broken_none, locked, locked_locked, locked-satisfies}
use Rattle.theory.proofs.Chains.{fits?, linked, chain?, shown-from}
use Rattle.theory.proofs.Each.{uncons}

abbrev pub fit? : List Picture → List Entry → Bool
fit? P E = proper? P E && closed? P E (close P E)

abbrev pub joined? : List ℕ → Entry → Bool
joined? L (same a b) = false
joined? L (differ a b) = eqb (label L a) (label L b)

abbrev pub first? : {X : Type 0} → (X → Bool) → ℕ → List X → Bool
first? f k [] = false
first? f zero (x ∷ xs) = false
first? f (suc zero) (x ∷ xs) = f x
first? f (suc (suc k)) (x ∷ xs) = not (f x) && first? f (suc k) xs

abbrev pub count_to : List ℕ → ℕ → ℕ
count_to L zero = 0
count_to L (suc n) = cond (eqb (label L (suc n)) (suc n)) (suc (count_to L n)) (count_to L n)

abbrev pub bears? : List Picture → List ℕ → ℕ → List ℕ → ℕ → Bool
bears? P L o xs p = eqb (operation P p) o && eqs (map (label L) (inputs P p)) xs

abbrev pub applies? : List Picture → List ℕ → ℕ → List ℕ → ℕ → Bool
applies? P L o xs v =
    upto (λ p. not (bears? P L o xs p) || eqb (label L p) v) (length P) && (eqb v 0 || not (upto (λ p. not (bears? P L o xs p)) (length P)))

-- THE ANSWERS, computed
-- the number of the first element that the test holds of
abbrev pub where? : {X : Type 0} → (X → Bool) → List X → ℕ
where? f [] = 0
where? f (x ∷ xs) = cond (f x) 1 (suc (where? f xs))

-- the two pictures of an entry, by its number
abbrev pub left_at : ℕ → List Entry → ℕ
left_at k [] = 0
left_at zero (e ∷ F) = 0
left_at (suc zero) (same a b ∷ F) = a
left_at (suc zero) (differ a b ∷ F) = a
left_at (suc (suc k)) (e ∷ F) = left_at (suc k) F

abbrev pub right_at : ℕ → List Entry → ℕ
right_at k [] = 0
right_at zero (e ∷ F) = 0
right_at (suc zero) (same a b ∷ F) = b
right_at (suc zero) (differ a b ∷ F) = b
right_at (suc (suc k)) (e ∷ F) = right_at (suc k) F

-- the label of a picture that bears the numbers, among the first n
abbrev pub applied : List Picture → List ℕ → ℕ → List ℕ → ℕ → ℕ
applied P L o xs zero = 0
applied P L o xs (suc n) = cond (bears? P L o xs (suc n)) (label L (suc n)) (applied P L o xs n)

-- the steps that may be tried: each `same` entry with its number, and then all pairs of pictures, as often as there are pictures
abbrev pub by_entries : ℕ → List Entry → List Reason
by_entries k [] = []
by_entries k (same a b ∷ F) = by_entry a b k ∷ by_entries (suc k) F
by_entries k (differ a b ∷ F) = by_entries (suc k) F

abbrev pub by_pairs : ℕ → ℕ → List Reason → List Reason
by_pairs zero b S = S
by_pairs (suc a) zero S = by_pairs a a S
by_pairs (suc a) (suc b) S = by_pairs (suc a) b (by_twins (suc b) (suc a) ∷ S)

abbrev pub again : ℕ → List Reason → List Reason
again zero S = []
again (suc n) S = S ++ again n S

-- those of them that fit and join, one after another, until a and b are joined
abbrev pub picked : List Picture → List Entry → ℕ → ℕ → List ℕ → List Reason → List Reason
picked P F a b M [] = []
picked P F a b M (s ∷ S) =
    let here = picked P F a b (merge M (left s) (right s)) S in
    cond (eqb (label M a) (label M b)) []
    (cond (fits? P F M s && not (eqb (label M (left s)) (label M (right s)))) (s ∷ here) (picked P F a b M S))

-- a chain that joins a and b, where there is one
abbrev pub witness : List Picture → List Entry → ℕ → ℕ → List Reason
witness P F a b = picked P F a b (fresh 1 P) (by_entries 1 F ++ again (length P) (by_pairs (length P) (length P) []))

abbrev pub told_entry : List Picture → List Entry → List ℕ → List ℕ → Entry → Answer
told_entry P E L M (same a b) = joined (length E + 1) (count_to L (length P) - count_to M (length P))
told_entry P E L M (differ a b) = noted (length E + 1)

-- no entry is broken
abbrev pub clear? : List ℕ → List Entry → Bool
clear? M F = each? (λ x. not (joined? M x)) F

-- the answer of an entry that passes its other checks
abbrev pub entered : List Picture → List Entry → Entry → Answer
entered P E e =
    let F = E ++ (e ∷ []) in
    let M = close P F in
    let k = where? (joined? M) F in
    cond (clear? M F) (told_entry P E (close P E) M e) (refused (contradiction k (length (witness P F (left_at k F) (right_at k F)))))

-- one check, where the test says that it fails
abbrev pub unless : Bool → Refusal → Answer → Answer
unless b f r = cond b (refused f) r

abbrev pub reply : ℕ → Content → Call → Answer
reply cap s (add o is) =
    unless (leb 5 (length is)) many_inputs (unless (not (each? (on? s.pictures) is)) no_picture (unless (leb 1024 (length s.pictures) || leb cap (length s.pictures)) full
    (added (length s.pictures + 1) (label (close (with_picture s o is).pictures s.entries) (length s.pictures + 1)))))
reply cap s (tell e cells) =
    unless (leb (suc cells) 1024) few_cells (unless (not (placed? s.pictures e)) no_picture (unless (leb 2048 (length s.entries)) full
    (entered s.pictures s.entries e)))
reply cap s (must a b) =
    unless (not (on? s.pictures a && on? s.pictures b)) no_picture
    (told (eqb (label (close s.pictures s.entries) a) (label (close s.pictures s.entries) b)))
reply cap s (why a b cells) =
    unless (leb (suc cells) 1024) few_cells (unless (not (on? s.pictures a && on? s.pictures b)) no_picture
    (unless (not (eqb (label (close s.pictures s.entries) a) (label (close s.pictures s.entries) b))) apart
    (explained (length (witness s.pictures s.entries a b)))))
reply cap s lock = turned
reply cap s reopen = turned
reply cap s (value p) = unless (not (on? s.pictures p)) no_picture (valued (label (close s.pictures s.entries) p))
reply cap s (apply o xs) =
    unless (leb 5 (length xs)) many_inputs (valued (applied s.pictures (close s.pictures s.entries) o xs (length s.pictures)))

-- THE TEST
abbrev pub stands? : Content → Call → Bool
stands? s (add o is) = not s.locked
stands? s (tell e cells) = not s.locked
stands? s (must a b) = true
stands? s (why a b cells) = true
stands? s lock = not s.locked
stands? s reopen = s.locked
stands? s (value p) = s.locked
stands? s (apply o xs) = s.locked

abbrev pub shown? : List Picture → List Entry → ℕ → ℕ → List Reason → Bool
shown? P F a b T = chain? P F (fresh 1 P) T && eqb (label (linked (fresh 1 P) T) a) (label (linked (fresh 1 P) T) b)

abbrev pub entry? : List Picture → List Entry → List Entry → Bool
entry? P E F =
    let M = close P F in
    let k = where? (joined? M) F in
    cond (clear? M F) (leb (count_to M (length P)) (count_to (close P E) (length P)))
    (first? (joined? M) k F && shown? P F (left_at k F) (right_at k F) (witness P F (left_at k F) (right_at k F)))

-- a check that fails settles the answer, and else the rest is tested
abbrev pub or_else : Bool → Bool → Bool
or_else b t = cond b true t

abbrev pub ready? : ℕ → Content → Call → Bool
ready? cap s (add o is) =
    or_else (leb 5 (length is)) (or_else (not (each? (on? s.pictures) is)) (or_else (leb 1024 (length s.pictures) || leb cap (length s.pictures))
    (fit? (with_picture s o is).pictures s.entries && on? (with_picture s o is).pictures (length s.pictures + 1))))
ready? cap s (tell e cells) =
    or_else (leb (suc cells) 1024) (or_else (not (placed? s.pictures e)) (or_else (leb 2048 (length s.entries))
    (fit? s.pictures s.entries && (fit? s.pictures (s.entries ++ (e ∷ [])) && entry? s.pictures s.entries (s.entries ++ (e ∷ []))))))
ready? cap s (must a b) = or_else (not (on? s.pictures a && on? s.pictures b)) (fit? s.pictures s.entries)
ready? cap s (why a b cells) =
    or_else (leb (suc cells) 1024) (or_else (not (on? s.pictures a && on? s.pictures b)) (fit? s.pictures s.entries
    && or_else (not (eqb (label (close s.pictures s.entries) a) (label (close s.pictures s.entries) b)))
    (shown? s.pictures s.entries a b (witness s.pictures s.entries a b))))
ready? cap s lock = true
ready? cap s reopen = true
ready? cap s (value p) = or_else (not (on? s.pictures p)) (fit? s.pictures s.entries)
ready? cap s (apply o xs) =
    or_else (leb 5 (length xs)) (fit? s.pictures s.entries
    && applies? s.pictures (close s.pictures s.entries) o xs (applied s.pictures (close s.pictures s.entries) o xs (length s.pictures)))

-- the run of these calls, and whether the test passes all along
abbrev pub made : ℕ → Content → List Call → List (Call × Answer)
made cap s [] = []
made cap s (c ∷ cs) = (c, reply cap s c) ∷ made cap (after s c (reply cap s c)) cs

abbrev pub goes? : ℕ → Content → List Call → Bool
goes? cap s [] = fit? s.pictures s.entries
goes? cap s (c ∷ cs) = stands? s c && (ready? cap s c && goes? cap (after s c (reply cap s c)) cs)

-- WHERE THE TEST PASSES
not_each : {X : Type 0} (f : X → Bool) (Q : X → Type 0) → ((x : X) → f x ≡ false → ¬ Q x) → (xs : List X) → each? (λ x. not (f x)) xs ≡ true → (k : ℕ) → ¬ First Q k xs
not_each f Q h [] t k q = q
not_each f Q h (x ∷ xs) t zero q = q
not_each f Q h (x ∷ xs) t (suc zero) q = h x (not-true _ (and_parts (not (f x)) (each? (λ y. not (f y)) xs) t).0) q
not_each f Q h (x ∷ xs) t (suc (suc k)) q = not_each f Q h xs (and_parts (not (f x)) (each? (λ y. not (f y)) xs) t).1 (suc k) q.1

module _ (P : List Picture) (E : List Entry) (t : fit? P E ≡ true) where
  abbrev pub L : List ℕ
  L = close P E

  pub proper : Proper P E
  proper = proper_from P E (and_parts (proper? P E) (closed? P E L) t).0

  pub lows : (p : ℕ) → On P p → Lowest P E p (label L p)
  lows p on = lowest-label P E proper L (good-close P E proper) (and_parts (proper? P E) (closed? P E L) t).1 p on

  pub known : Known P E
  known p on = (label L p, lows p on)

  pub low_from : (p m : ℕ) → (on? P p && eqb (label L p) m) ≡ true → Lowest P E p m
  low_from p m h =
      let k = and_parts (on? P p) (eqb (label L p) m) h in
      subst (λ x. Lowest P E p x) (eqb-true _ _ k.1) (lows p (on_on P p k.0))

  pub closed_from : (a b : ℕ) → On P a → On P b → label L a ≡ label L b → Closure P E a b
  closed_from a b oa ob e = lowest_joins P E a b (label L b) (subst (λ x. Lowest P E a x) e (lows a oa)) (lows b ob)

  pub same_label : (a b : ℕ) → Closure P E a b → label L a ≡ label L b
  same_label a b c = lowest_same P E a b _ _ c (lows a c.0) (lows b c.1)

  counted : (n : ℕ) → n ≤ length P → Counts (λ p. Lowest P E p p) n (count_to L n)
  counted zero h = refl
  counted (suc n) h = go (eqb (label L (suc n)) (suc n)) refl (counted n (omega arith))
    where
      on : On P (suc n)
      on = (omega arith, h)

      go : (b : Bool) → eqb (label L (suc n)) (suc n) ≡ b → Counts (λ p. Lowest P E p p) n (count_to L n) →
          Counts (λ p. Lowest P E p p) (suc n) (cond b (suc (count_to L n)) (count_to L n))
      go true e c = inl (subst (λ x. Lowest P E (suc n) x) (eqb-true _ _ e) (lows (suc n) on), (count_to L n, refl, c))
      go false e c = inr ((λ l. eqb-false _ _ e (lowest_same P E (suc n) (suc n) _ _ (c_refl P E (suc n) on) (lows (suc n) on) l)), c)

  pub classes_from : Classes P E (count_to L (length P))
  classes_from = counted (length P) (omega arith)

  not_joined : (e : Entry) → joined? L e ≡ false → ¬ Breaks P E e
  not_joined (same a b) h j = j
  not_joined (differ a b) h j = eqb-false _ _ h (same_label a b j)

  pub satisfied : each? (λ x. not (joined? L x)) E ≡ true → (r : Reading) × Satisfies r P E
  satisfied h = (locked P E known, locked-satisfies P E proper (locked P E known) (locked_locked P E known) (not_each (joined? L) (Breaks P E) not_joined E h))

  firsts : (F : List Entry) → All (Placed P) F → (k : ℕ) → first? (joined? L) k F ≡ true → First (Breaks P E) k F
  firsts [] w k h = both_ways false refl h
  firsts (x ∷ F) w zero h = both_ways false refl h
  firsts (same a b ∷ F) w (suc zero) h = both_ways false refl h
  firsts (differ a b ∷ F) w (suc zero) h = let v = All-head (Placed P) (differ a b) F w in closed_from a b v.0 v.1 (eqb-true _ _ h)
  firsts (x ∷ F) w (suc (suc k)) h =
      let t = and_parts (not (joined? L x)) (first? (joined? L) (suc k) F) h in
      (not_joined x (not-true _ t.0), firsts F (All-tail (Placed P) x F w) (suc k) t.1)

  pub broken_from : (k : ℕ) → first? (joined? L) k E ≡ true → Broken P E k
  broken_from k h = firsts E proper.1 k h

  pub none_from : (k : ℕ) → first? (joined? L) k E ≡ true → (r : Reading) → ¬ Satisfies r P E
  none_from k h = broken_none P E proper.0 k (broken_from k h)

  pub applies_from : (o : ℕ) (xs : List ℕ) (v : ℕ) → applies? P L o xs v ≡ true → Applies P E o xs v
  applies_from o xs v h =
      let k = and_parts (upto (λ p. not (bears? P L o xs p) || eqb (label L p) v) (length P)) (eqb v 0 || not (upto (λ p. not (bears? P L o xs p)) (length P))) h in (
        λ p b. found p b (upto_at (λ q. not (bears? P L o xs q) || eqb (label L q) v) (length P) k.0 p b.0.0 b.0.1),
        λ n. ⊎_elim (λ e. eqb-true _ _ e) (λ e. absurd (nothing n (some_upto (λ q. not (bears? P L o xs q)) (length P) (not-true _ e)))) (or_cases _ _ k.1),
      )
    where
      row_of : (is ys : List ℕ) → AllZip (Lowest P E) is ys → eqs (map (label L) is) ys ≡ true
      row_of [] [] e = refl
      row_of [] (y ∷ ys) e = absurd e
      row_of (i ∷ is) [] e = absurd e
      row_of (i ∷ is) (y ∷ ys) e =
          and_from _ _ (eq-eqb _ _ (lowest_same P E i i _ _ (c_refl P E i e.0.0.0) (lows i e.0.0.0) e.0)) (row_of is ys e.1)

      of_row : (is ys : List ℕ) → All (On P) is → eqs (map (label L) is) ys ≡ true → AllZip (Lowest P E) is ys
      of_row [] [] w e = tt
      of_row [] (y ∷ ys) w e = both_ways false refl e
      of_row (i ∷ is) [] w e = both_ways false refl e
      of_row (i ∷ is) (y ∷ ys) w e =
          let r = and_parts (eqb (label L i) y) (eqs (map (label L) is) ys) e in
          let v = uncons (On P) i is w in
          (subst (λ x. Lowest P E i x) (eqb-true _ _ r.0) (lows i v.0), of_row is ys v.1 r.1)

      bearing : (p : ℕ) → Bears P E o xs p → bears? P L o xs p ≡ true
      bearing p b = and_from _ _ (eq-eqb _ _ b.1) (row_of (inputs P p) xs b.2)

      found : (p : ℕ) → Bears P E o xs p → (not (bears? P L o xs p) || eqb (label L p) v) ≡ true → Lowest P E p v
      found p b e =
          ⊎_elim (λ n. absurd (both_ways (bears? P L o xs p) (not-true _ n) (bearing p b))) (λ q. subst (λ x. Lowest P E p x) (eqb-true _ _ q) (lows p b.0))
          (or_cases _ _ e)

      nothing : ((p : ℕ) → ¬ Bears P E o xs p) → (p : ℕ) × (1 ≤ p) × (p ≤ length P) × (not (bears? P L o xs p) ≡ false) → ⊥
      nothing n s =
          let on : On P s.0 = (s.1, s.2) in
          let r = and_parts (eqb (operation P s.0) o) (eqs (map (label L) (inputs P s.0)) xs) (not-false _ s.3) in
          n s.0 (on, eqb-true _ _ r.0, of_row (inputs P s.0) xs (inputs_on P E proper s.0 on) r.1)

-- AN ANSWER IS RIGHT
stood : (s : Content) (c : Call) → stands? s c ≡ true → Stands s c
stood s (add o is) t = not-true _ t
stood s (tell e cells) t = not-true _ t
stood s (must a b) t = tt
stood s (why a b cells) t = tt
stood s lock t = not-true _ t
stood s reopen t = t
stood s (value p) t = t
stood s (apply o xs) t = t

-- an entry that is first broken is a `differ` entry
differs : (P : List Picture) (E F : List Entry) (k : ℕ) → First (Breaks P E) k F → Differs k F (left_at k F) (right_at k F)
differs P E [] k h = absurd h
differs P E (e ∷ F) zero h = absurd h
differs P E (same a b ∷ F) (suc zero) h = absurd h
differs P E (differ a b ∷ F) (suc zero) h = (refl, refl)
differs P E (e ∷ F) (suc (suc k)) h = differs P E F (suc k) h.1

-- and its pictures are on the sheet
first_on : (P : List Picture) (E F : List Entry) (k : ℕ) → First (Breaks P E) k F → On P (left_at k F) × On P (right_at k F)
first_on P E [] k h = absurd h
first_on P E (e ∷ F) zero h = absurd h
first_on P E (same a b ∷ F) (suc zero) h = absurd h
first_on P E (differ a b ∷ F) (suc zero) h = (h.0, h.1)
first_on P E (e ∷ F) (suc (suc k)) h = first_on P E F (suc k) h.1

shown_of : (P : List Picture) (F : List Entry) → fit? P F ≡ true → (a b : ℕ) → On P a → On P b → (T : List Reason) → shown? P F a b T ≡ true → Shown P F a b (length T)
shown_of P F t a b oa ob T h =
    let g = and_parts (chain? P F (fresh 1 P) T) (eqb (label (linked (fresh 1 P) T) a) (label (linked (fresh 1 P) T) b)) h in
    let q = shown-from P F (proper P F t) T g.0 in
    (T, (q.0, q.1 a b oa ob (eqb-true _ _ g.1)), refl)

contradicted : (P : List Picture) (F : List Entry) → fit? P F ≡ true → (k : ℕ) (T : List Reason) → first? (joined? (close P F)) k F ≡ true →
    shown? P F (left_at k F) (right_at k F) T ≡ true → Contradicted P F (refused (contradiction k (length T)))
contradicted P F t k T f h =
    let b = broken_from P F t k f in
    let on = first_on P F F k b in
    (k, length T, left_at k F, right_at k F, b, differs P F F k b, shown_of P F t _ _ on.0 on.1 T h, refl)

taken : (P : List Picture) (E : List Entry) (e : Entry) → fit? P E ≡ true → fit? P (E ++ (e ∷ [])) ≡ true →
    leb (count_to (close P (E ++ (e ∷ []))) (length P)) (count_to (close P E) (length P)) ≡ true →
    Taken P E e (told_entry P E (close P E) (close P (E ++ (e ∷ []))) e)
taken P E (same a b) t u l =
    let F = E ++ (same a b ∷ []) in
    let n = count_to (close P E) (length P) in
    let m = count_to (close P F) (length P) in
    (n - m, m, subst (λ x. Classes P E x) (whole n m (leb-true _ _ l)) (classes_from P E t), classes_from P F u, refl)
  where
    whole : (n m : ℕ) → m ≤ n → n ≡ m + (n - m)
    whole n m h = omega arith
taken P E (differ a b) t u l = refl

-- a check, from its test
checked : (b : Bool) (bad : Type 0) (f : Refusal) (r : Answer) (next : Answer → Type 0) (t : Bool) → (b ≡ true → bad) → (b ≡ false → ¬ bad) → (b ≡ false → t ≡ true → next r) →
    or_else b t ≡ true → Unless bad f (unless b f r) (next (unless b f r))
checked true bad f r next t y n k h = inl (y refl, refl)
checked false bad f r next t y n k h = inr (n refl, k refl h)

each_test : {X : Type 0} (f : X → Bool) (Q : X → Type 0) → ((x : X) → Q x → f x ≡ true) → (xs : List X) → All Q xs → each? f xs ≡ true
each_test f Q k [] h = refl
each_test f Q k (x ∷ xs) h = let p = uncons Q x xs h in and_from _ _ (k x p.0) (each_test f Q k xs p.1)

on_test : (P : List Picture) (p : ℕ) → On P p → on? P p ≡ true
on_test P p o = and_from _ _ (le-leb 1 p o.0) (le-leb p (length P) o.1)

placed_test : (P : List Picture) (e : Entry) → Placed P e → placed? P e ≡ true
placed_test P (same a b) o = and_from _ _ (on_test P a o.0) (on_test P b o.1)
placed_test P (differ a b) o = and_from _ _ (on_test P a o.0) (on_test P b o.1)

-- a test that says no, of what it decides
fails : (b : Bool) (Q : Type 0) → (Q → b ≡ true) → not b ≡ true → ¬ Q
fails b Q k e q = both_ways b (not-true b e) (k q)

-- and one that says yes
holds : (b : Bool) (Q : Type 0) → (b ≡ true → Q) → not b ≡ false → ¬ ¬ Q
holds b Q k e n = n (k (not-false b e))

both_on : (P : List Picture) (a b : ℕ) → (on? P a && on? P b) ≡ true → On P a × On P b
both_on P a b t = let h = and_parts (on? P a) (on? P b) t in (on_on P a h.0, on_on P b h.1)

both_test : (P : List Picture) (a b : ℕ) → On P a × On P b → (on? P a && on? P b) ≡ true
both_test P a b o = and_from _ _ (on_test P a o.0) (on_test P b o.1)

module _ (cap : ℕ) (s : Content) where
  abbrev P : List Picture
  P = s.pictures

  abbrev E : List Entry
  E = s.entries

  few : (n : ℕ) → leb 5 n ≡ false → ¬ (4 < n)
  few n e l = omega (arith, leb-false 5 n e)

  below : (m n : ℕ) → leb (suc n) m ≡ false → ¬ (n < m)
  below m n e l = omega (arith, leb-false (suc n) m e)

  short : (m n : ℕ) → leb m n ≡ false → ¬ (m ≤ n)
  short m n e l = omega (arith, leb-false m n e)

  ready_add : (o : ℕ) (is : List ℕ) → ready? cap s (add o is) ≡ true → Answers cap s (add o is) (reply cap s (add o is))
  ready_add o is t =
      checked _ _ many_inputs _ Inputs _ (leb-true 5 (length is)) (few (length is))
      (λ _. checked _ _ no_picture _ Room _ (fails _ _ (each_test (on? P) (On P) (on_test P) is)) (holds _ _ (each_at (on? P) (On P) (on_on P) is))
      (λ _. checked _ _ full _ Low _ (λ e. ⊎_elim (λ l. inl (leb-true 1024 (length P) l)) (λ l. inr (leb-true cap (length P) l)) (or_cases _ _ e))
      (λ e. let h = or_parts (leb 1024 (length P)) (leb cap (length P)) e in ⊎_elim (short _ _ h.0) (short _ _ h.1))
      (λ _ u. let d = and_parts (fit? Q E) (on? Q (length P + 1)) u in (_, lows Q E d.0 (length P + 1) (on_on Q (length P + 1) d.1), refl)))) t
    where
      Q : List Picture
      Q = (with_picture s o is).pictures

      Low : Answer → Type 0
      Low r = (m : ℕ) × Lowest Q E (length P + 1) m × (r ≡ added (length P + 1) m)

      Room : Answer → Type 0
      Room r = Unless ((1024 ≤ length P) ⊎ (cap ≤ length P)) full r (Low r)

      Inputs : Answer → Type 0
      Inputs r = Unless (¬ All (On P) is) no_picture r (Room r)

  ready_tell : (e : Entry) (cells : ℕ) → ready? cap s (tell e cells) ≡ true → Answers cap s (tell e cells) (reply cap s (tell e cells))
  ready_tell e cells t =
      checked _ _ few_cells _ Pair _ (leb-true (suc cells) 1024) (below 1024 cells)
      (λ _. checked _ _ no_picture _ Room _ (fails _ _ (placed_test P e)) (holds _ _ (placed_from P e))
      (λ _. checked _ _ full _ Decided _ (leb-true 2048 (length E)) (short _ _)
      (λ _ u. let d = and_parts (fit? P E) (fit? P F && entry? P E F) u in
      let f = and_parts (fit? P F) (entry? P E F) d.1 in decided d.0 f.0 (clear? M F) refl f.1))) t
    where
      F : List Entry
      F = E ++ (e ∷ [])

      M : List ℕ
      M = close P F

      k : ℕ
      k = where? (joined? M) F

      T : List Reason
      T = witness P F (left_at k F) (right_at k F)

      Decided : Answer → Type 0
      Decided r = (Impossible s e × Contradicted P F r) ⊎ ((¬ Impossible s e) × Taken P E e r)

      Room : Answer → Type 0
      Room r = Unless (2048 ≤ length E) full r (Decided r)

      Pair : Answer → Type 0
      Pair r = Unless (¬ Placed P e) no_picture r (Room r)

      decided : fit? P E ≡ true → fit? P F ≡ true → (v : Bool) → clear? M F ≡ v →
          cond v (leb (count_to M (length P)) (count_to (close P E) (length P))) (first? (joined? M) k F && shown? P F (left_at k F) (right_at k F) T) ≡ true →
          Decided (cond v (told_entry P E (close P E) M e) (refused (contradiction k (length T))))
      decided u w true c h = let q = satisfied P F w c in inr ((λ n. n q.0 q.1), taken P E e u w h)
      decided u w false c h =
          let q = and_parts (first? (joined? M) k F) (shown? P F (left_at k F) (right_at k F) T) h in
          inl (none_from P F w k q.0, contradicted P F w k T q.0 q.1)

  module _ (a b : ℕ) where
    abbrev same? : Bool
    same? = eqb (label (close P E) a) (label (close P E) b)

    one_class : fit? P E ≡ true → On P a × On P b → same? ≡ true → Closure P E a b
    one_class u on e = closed_from P E u a b on.0 on.1 (eqb-true _ _ e)

    two-classes : fit? P E ≡ true → Closure P E a b → same? ≡ true
    two-classes u c = eq-eqb _ _ (same_label P E u a b c)

    ready-must : ready? cap s (must a b) ≡ true → Answers cap s (must a b) (reply cap s (must a b))
    ready-must t =
        checked _ _ no_picture _ Decided _ (fails _ _ (both_test P a b)) (holds _ _ (both_on P a b)) (λ e u. decided u (both_on P a b (not-false _ e)) same? refl) t
      where
        Decided : Answer → Type 0
        Decided r = (Closure P E a b × (r ≡ told true)) ⊎ ((¬ Closure P E a b) × (r ≡ told false))

        decided : fit? P E ≡ true → On P a × On P b → (v : Bool) → same? ≡ v → Decided (told v)
        decided u on true e = inl (one_class u on e, refl)
        decided u on false e = inr ((λ c. both_ways same? e (two-classes u c)), refl)

    ready-why : (cells : ℕ) → ready? cap s (why a b cells) ≡ true → Answers cap s (why a b cells) (reply cap s (why a b cells))
    ready-why cells t =
        checked _ _ few_cells _ Pair _ (leb-true (suc cells) 1024) (below 1024 cells)
        (λ _. checked _ _ no_picture _ Class _ (fails _ _ (both_test P a b)) (holds _ _ (both_on P a b))
        (λ e u. let h = and_parts (fit? P E) (or_else (not same?) (shown? P E a b T)) u in class h.0 (both_on P a b (not-false _ e)) h.1)) t
      where
        T : List Reason
        T = witness P E a b

        Chain : Answer → Type 0
        Chain r = (n : ℕ) × Shown P E a b n × (r ≡ explained n)

        Class : Answer → Type 0
        Class r = Unless (¬ Closure P E a b) apart r (Chain r)

        Pair : Answer → Type 0
        Pair r = Unless (¬ (On P a × On P b)) no_picture r (Class r)

        class : fit? P E ≡ true → On P a × On P b → or_else (not same?) (shown? P E a b T) ≡ true → Class (unless (not same?) apart (explained (length T)))
        class u on =
            checked _ _ apart _ Chain _ (fails _ _ (two-classes u)) (holds _ _ (one_class u on)) (λ _ h. (_, shown_of P E u a b on.0 on.1 T h, refl))

  ready_value : (p : ℕ) → ready? cap s (value p) ≡ true → Answers cap s (value p) (reply cap s (value p))
  ready_value p t =
      checked _ _ no_picture _ (λ r. (m : ℕ) × Lowest P E p m × (r ≡ valued m)) _ (fails _ _ (on_test P p)) (holds _ _ (on_on P p))
      (λ e u. (_, lows P E u p (on_on P p (not-false _ e)), refl)) t

  ready_apply : (o : ℕ) (xs : List ℕ) → ready? cap s (apply o xs) ≡ true → Answers cap s (apply o xs) (reply cap s (apply o xs))
  ready_apply o xs t =
      checked _ _ many_inputs _ (λ r. (v : ℕ) × Applies P E o xs v × (r ≡ valued v)) _ (leb-true 5 (length xs)) (few (length xs))
      (λ _ u. let k = and_parts (fit? P E) (applies? P (close P E) o xs (applied P (close P E) o xs (length P))) u in (_, applies_from P E k.0 o xs _ k.1, refl)) t

  ready : (c : Call) → ready? cap s c ≡ true → Answers cap s c (reply cap s c)
  ready (add o is) t = ready_add o is t
  ready (tell e cells) t = ready_tell e cells t
  ready (must a b) t = ready-must a b t
  ready (why a b cells) t = ready-why a b cells t
  ready lock t = refl
  ready reopen t = refl
  ready (value p) t = ready_value p t
  ready (apply o xs) t = ready_apply o xs t

gone : (cap : ℕ) (s : Content) (cs : List Call) → goes? cap s cs ≡ true →
    Goes cap s (made cap s cs) × (let z = leaves s (made cap s cs) in fit? z.pictures z.entries ≡ true)
gone cap s [] t = (tt, t)
gone cap s (c ∷ cs) t =
    let a = and_parts (stands? s c) (ready? cap s c && goes? cap (after s c (reply cap s c)) cs) t in
    let b = and_parts (ready? cap s c) (goes? cap (after s c (reply cap s c)) cs) a.1 in
    let g = gone cap (after s c (reply cap s c)) cs b.1 in
    ((stood s c a.0, ready cap s c b.0, g.0), g.1)

-- THE TABLE
abbrev calls : List (Call × Answer) → List Call
calls log = map (λ c. c.0) log

-- the test passes, and the computed answers and classes are those of the log
abbrev Computed : ℕ → List (Call × Answer) → ℕ → Type 0
Computed cap log k =
    let l = made cap empty (calls log) in
    let s = leaves empty l in
    (goes? cap empty (calls log) ≡ true) × (l ≡ log) × (count_to (close s.pictures s.entries) (length s.pictures) ≡ k)

worked : (cap : ℕ) (log : List (Call × Answer)) (k : ℕ) → Computed cap log k → Goes cap empty log × (let s = leaves empty log in Classes s.pictures s.entries k)
worked cap log k c =
    let l = made cap empty (calls log) in
    let g = gone cap empty (calls log) c.0 in
    let s = leaves empty l in
    subst (λ m. Goes cap empty m × (let t = leaves empty m in Classes t.pictures t.entries k)) c.1
    (g.0, subst (λ n. Classes s.pictures s.entries n) c.2 (classes_from s.pictures s.entries g.1))

abbrev Worked : Example → Type 0
Worked x = Computed 1024 x.log x.classes

computed : AllByRecursion Worked examples
unfolding examples
computed = ((refl, refl, refl), ((refl, refl, refl), ((refl, refl, refl), ((refl, refl, refl), ((refl, refl, refl), ((refl, refl, refl), ((refl, refl, refl), ((refl, refl, refl), ((refl, refl, refl), tt)))))))))

pub examples_law : ExamplesLaw
examples_law = All-weaker Worked _ (λ x. worked 1024 x.log x.classes) examples (All-from_recursion Worked examples computed)

abbrev Sampled : Sample → Type 0
Sampled x = Computed x.capacity x.log x.classes

sampled : AllByRecursion Sampled samples
unfolding samples
sampled = ((refl, refl, refl), ((refl, refl, refl), ((refl, refl, refl), ((refl, refl, refl), ((refl, refl, refl), ((refl, refl, refl), tt))))))

pub samples_law : SamplesLaw
samples_law = All-weaker Sampled _ (λ x. worked x.capacity x.log x.classes) samples (All-from_recursion Sampled samples sampled)
