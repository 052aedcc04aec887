-- Marked joins written into the table, and what the table then tells. Assumes nothing.
use Rattle.std.proofs.Common.{◌≡◌, ℕ, zero, suc, ◌+◌, ◌<◌, ◌≤◌, ltb, List, [], ◌∷◌, map, length, get_or, set, All, inl, inr, sym, refl, ap, ◌∙◌, subst, subst₂, arith, get_or-set_other, get_or-set_same}
use native.Mathlib.Decide.{ℕ_discrete, dec_le}
use Rattle.std.specs.List.{range_with_len}
use Rattle.std.proofs.lemmas.List.Elements.{All-nil, All-cons}
use Rattle.std.proofs.lemmas.List.{length-map, get_or-map, get_or_past, get_or_default}
use Rattle.std.proofs.lemmas.Bool.{cases_eq, cond-true, cond-false, lt-ltb, le-ltb, eq-eqb, ne_eqb}
use Rattle.theory.specs.Reasons.{Reason}
use Rattle.chains.specs.Chain.{Chain}
use Rattle.chains.specs.Thread.{first_of, next_in, Threaded}
use Rattle.congruence.specs.declared.journal.Cause.{Cause}
use Rattle.congruence.specs.declared.journal.Cause.TheVariants.{Entry as Numbered, Twins}
use Rattle.congruence.specs.declared.journal.Join.{Join}
use Rattle.congruence.specs.Drawn.{reason, reason_of}
use Rattle.reasons.specs.declared.step.Step.{Step}
use Rattle.reasons.specs.Table.{Names, Along, Chained, Listed, Laid, occurs, empty_cell, cell_by, cell_of}

-- the step with another next
abbrev pub led : Step → ℕ → Step
led s n = record { kind = s.kind; left = s.left; right = s.right; entry = s.entry; next = n }

pub listed_none : (joins : List Join) (table : List Step) → Listed joins table table 0
listed_none joins table = record { cells = λ k d e h. absurd (omega arith); rest = λ k e h. refl }

pub listed_more : (joins : List Join) (before after : List Step) (i : ℕ) (d : Join) (s : Step) → i < length after → i < length joins → s ≡ cell_of (get_or joins i d) 0 → Listed joins before after i → Listed joins before (set after i s) (i + 1)
listed_more joins before after i d s la lj is w = record {
  cells = λ k f e h. elim (cases_eq k i) [
    | inl q ↦ ap (λ (j : ℕ). get_or (set after i s) j e) q ∙ (get_or-set_same after i s e la ∙ (is ∙ (ap (λ x. cell_of x 0) (get_or_default joins i d f lj) ∙ ap (λ (j : ℕ). cell_of (get_or joins j f) 0) (sym q))))
    | inr n ↦ get_or-set_other after i k s e n ∙ w.cells k f e (omega arith)
  ];
  rest = λ k e h. get_or-set_other after i k s e (omega arith) ∙ w.rest k e (omega arith);
}

by_cause : (l r : ℕ) (c : Cause) (n : ℕ) → led (cell_by l r c 0) n ≡ cell_by l r c n
by_cause l r (Numbered k) n = refl
by_cause l r Twins n = refl

-- a cell with another next is the cell of its join with that next
cell_led : (j : Join) (n : ℕ) → led (cell_of j 0) n ≡ cell_of j n
cell_led j n = by_cause j.left j.right j.cause n

-- steps that stand in the table become a chain
pub laid : (joins : List Join) (before middle after : List Step) → length joins ≤ length middle → length middle ≡ length before → length after ≡ length middle
    → Listed joins before middle (length joins) → Threaded led (length joins) (length joins) middle after
    → Chain (map (λ s. s.next) after) (first_of (length joins)) (range_with_len 1 (length joins)) → Laid joins before after
laid joins before middle after fits lb la w t path =
    let m : ℕ = length joins in
    record {
      cells = λ k d e h.
          t k e (omega arith)
          ∙ (cond-true (ltb k m) (led (get_or middle k e) (next_in m k)) (get_or middle k e) (lt-ltb k m h)
          ∙ (ap (λ (s : Step). led s (next_in m k)) (w.cells k d e h) ∙ cell_led (get_or joins k d) (next_in m k)));
      rest = λ k e h. go k e h (dec_le (suc k) (length middle));
      path = path;
    }
  where
    go : (k : ℕ) (e : Step) → length joins ≤ k → Dec (k < length middle) → get_or after k e ≡ get_or before k e
    go k e h (yes l) = t k e l ∙ (cond-false (ltb k (length joins)) (led (get_or middle k e) (next_in (length joins) k)) (get_or middle k e) (le-ltb k (length joins) h) ∙ w.rest k e h)
    go k e h (no l) = get_or_past after k e (omega arith) ∙ sym (get_or_past before k e (omega arith))

names_by : (l r : ℕ) (c : Cause) (n : ℕ) → Names (reason l r c) (cell_by l r c n)
names_by l r (Numbered k) n = (refl, refl, refl, refl)
names_by l r Twins n = (refl, refl, refl, refl)

none_below : (k i n : ℕ) → k < i → occurs k (range_with_len i n) ≡ 0
none_below k i zero l = refl
none_below k i (suc n) l = cond-false _ _ _ (ne_eqb i k (λ e. omega arith)) ∙ none_below k (i + 1) n (omega arith)

once_in : (k i n : ℕ) → i ≤ k → k < i + n → occurs k (range_with_len i n) ≡ 1
once_in k i zero l u = absurd (omega arith)
once_in k i (suc n) l u = go (ℕ_discrete i k) (λ a b. once_in k (i + 1) n a b)
  where
    go : Dec (i ≡ k) → (i + 1 ≤ k → k < i + 1 + n → occurs k (range_with_len (i + 1) n) ≡ 1) → occurs k (range_with_len i (suc n)) ≡ 1
    go (yes e) r = cond-true _ _ _ (eq-eqb i k e) ∙ ap suc (none_below k (i + 1) n (omega arith))
    go (no m) r = cond-false _ _ _ (ne_eqb i k m) ∙ r (omega arith) (omega arith)

all_below : (m i n : ℕ) → i + n ≤ m + 1 → All (λ k. k ≤ m) (range_with_len i n)
all_below m i zero l = All-nil (λ k. k ≤ m)
all_below m i (suc n) l = All-cons (λ k. k ≤ m) i (range_with_len (i + 1) n) (omega arith) (all_below m (i + 1) n (omega arith))

-- the steps T stand from the place i on
along_from : (after : List Step) (i : ℕ) (T : List Reason) → ((k : ℕ) (d : Reason) (e : Step) → k < length T → Names (get_or T k d) (get_or after (i + k) e)) → Along after (range_with_len (i + 1) (length T)) T
along_from after i [] h = tt
along_from after i (s ∷ T) h = (
  subst (λ k. Names s (get_or after k empty_cell)) (omega arith) (h 0 s empty_cell (omega arith)),
  along_from after (i + 1) T (λ k d e l. subst (λ j. Names (get_or T k d) (get_or after j e)) (omega arith) (h (suc k) d e (omega arith))),
)

-- joins that are laid out are a chain of their steps
pub chained : (ks : List Join) (before after : List Step) → Laid ks before after → Chained (map reason_of ks) before after
chained ks before after h =
    record {
      path = range_with_len 1 (length T);
      walk = subst (λ n. Chain (map (λ c. c.next) after) (first_of n) (range_with_len 1 n)) long h.path;
      once = λ k l u. once_in k 1 (length T) l (omega arith);
      only = all_below (length T) 1 (length T) (omega arith);
      along = along_from after 0 T (λ k d x l. subst (λ j. Names (get_or T k d) (get_or after j x)) (omega arith) (names k d x (omega (arith, long, l))));
      rest = λ k x l. h.rest k x (omega (arith, long, l));
    }
  where
    T : List Reason
    T = map reason_of ks

    long : length ks ≡ length (map reason_of ks)
    long = sym (length-map ks reason_of)

    none : Join
    none = record { left = 0; right = 0; cause = Twins }

    names : (k : ℕ) (d : Reason) (x : Step) → k < length ks → Names (get_or (map reason_of ks) k d) (get_or after k x)
    names k d x l =
        let j : Join = get_or ks k none in
        let r : get_or (map reason_of ks) k d ≡ reason_of j = get_or-map reason_of ks k none d l in
        subst₂ (λ s z. Names s z) (sym r) (sym (h.cells k none x l)) (names_by j.left j.right j.cause (next_in (length ks) k))
