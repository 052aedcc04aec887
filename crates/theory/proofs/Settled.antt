-- For every sheet: labels that are the closure's, with a journal of the joins that made them. Assumes nothing.
use Rattle.std.proofs.Common.{◌≡◌, ℕ, zero, suc, ◌+◌, ◌<◌, ◌≤◌, Bool, true, false, cond, not, ◌&&◌, ◌||◌, eqb, ◌≢◌, List, [], ◌∷◌, ◌++◌, map, length, get_or, All, sym, refl, ap, ◌∙◌, subst, ⊎_elim, arith}
use Rattle.std.proofs.lemmas.Bool.{eq-eqb, eqb-true, eqb-false, le-leb, not-false, cases_order, and_cases, and_from, both_ways}
use Rattle.std.proofs.lemmas.List.Elements.{All-head, All-tail}
use Rattle.theory.specs.Sheet.{Picture, Entry, same, differ, On, Placed, Proper, Closure}
use Rattle.theory.specs.Statements.{Known}
use Rattle.theory.specs.Reasons.{Reason, by_entry, by_twins, left, right, Number, Fits, Derivation, Explains, ExplainsLaw}
use Rattle.theory.specs.Parts.{Joins}
use Rattle.theory.proofs.Closed.{lowest_same, c_sym}
use Rattle.theory.proofs.Naive.{label, twin?, to, to_hit, to_miss, fresh, upto, each?, kept?, low?, twins?, closed?, Good, good_to, good-fresh, label_map, label_fresh, lowest-label, some_upto}
use Rattle.theory.proofs.Reasons.{chain_law}
use Rattle.theory.proofs.Journals.{join_more_law, tracks_law, tracks_more_law}
use Rattle.theory.proofs.Chains.{Grown, start, swapped, to_joins, fits-from}

-- Each round without a congruence joins two classes, and the labels' sum falls
abbrev total : List ℕ → ℕ
total [] = 0
total (x ∷ xs) = x + total xs

total_le : (f : ℕ → ℕ) → ((x : ℕ) → f x ≤ x) → (xs : List ℕ) → total (map f xs) ≤ total xs
total_le f h [] = omega arith
total_le f h (x ∷ xs) = omega (arith, h x, total_le f h xs)

total_lt : (f : ℕ → ℕ) → ((x : ℕ) → f x ≤ x) → (xs : List ℕ) (i : ℕ) → i < length xs → f (get_or xs i 0) < get_or xs i 0 → total (map f xs) < total xs
total_lt f h [] i l k = absurd (omega arith)
total_lt f h (x ∷ xs) zero l k = omega (arith, k, total_le f h xs)
total_lt f h (x ∷ xs) (suc i) l k = omega (arith, h x, total_lt f h xs i (omega arith) k)

to_le : (u v : ℕ) → v ≤ u → (x : ℕ) → to u v x ≤ x
to_le u v h x = go (eqb x u) refl
  where
    go : (b : Bool) → eqb x u ≡ b → cond b v x ≤ x
    go true e = omega (arith, eqb-true x u e)
    go false e = omega arith

or_parts : (x y : Bool) → (x || y) ≡ false → (x ≡ false) × (y ≡ false)
or_parts true y e = absurd (both_ways true e refl)
or_parts false y e = (refl, e)

module _ (P : List Picture) (E : List Entry) (w : Proper P E) where
  abbrev Tidy : List ℕ → Type 0
  Tidy L = (p : ℕ) → On P p → (1 ≤ label L p) × (label L p ≤ p) × (label L (label L p) ≡ label L p)

  -- a step that fits, of two pictures that have two labels
  abbrev Gap : List Reason → List ℕ → Type 0
  Gap J L = (s : Reason) × (On P (left s) × On P (right s)) × Fits P E J s × (label L (left s) ≢ label L (right s))

  number_suc : (e : Entry) (F : List Entry) (k l r : ℕ) → Number k F l r → Number (suc k) (e ∷ F) l r
  number_suc e [] k l r n = absurd n
  number_suc e (x ∷ F) zero l r n = absurd n
  number_suc e (x ∷ F) (suc k) l r n = n

  gap_entry : (J : List Reason) (L : List ℕ) (F : List Entry) (f : ℕ → ℕ) → ((k l r : ℕ) → Number k F l r → Number (f k) E l r) → All (Placed P) F →
      each? (kept? L) F ≡ false → Gap J L
  gap_entry J L [] f n w t = absurd (both_ways true t refl)
  gap_entry J L (same a b ∷ F) f n w t =
      ⊎_elim (λ e. (by_entry a b (f 1), All-head (Placed P) (same a b) F w, n 1 a b (refl, refl), eqb-false _ _ e))
      (λ e. gap_entry J L F (λ k. f (suc k)) (λ k l r h. n (suc k) l r (number_suc (same a b) F k l r h)) (All-tail (Placed P) (same a b) F w) e)
      (and_cases (eqb (label L a) (label L b)) (each? (kept? L) F) t)
  gap_entry J L (differ a b ∷ F) f n w t = gap_entry J L F (λ k. f (suc k)) (λ k l r h. n (suc k) l r (number_suc (differ a b) F k l r h)) (All-tail (Placed P) (differ a b) F w) t

  gap : (J : List Reason) (L : List ℕ) → Grown P E J L → Tidy L → closed? P E L ≡ false → Gap J L
  gap J L g d t =
      ⊎_elim (λ e. gap_entry J L E (λ k. k) (λ k l r h. h) w.1 e)
      (λ e. ⊎_elim (λ l. absurd (tidy-low (some_upto (low? L) (length P) l))) (λ l. outside (some_upto (λ a. upto (twins? P L a) (length P)) (length P) l))
      (and_cases (upto (low? L) (length P)) (upto (λ a. upto (twins? P L a) (length P)) (length P)) e))
      (and_cases (each? (kept? L) E) (upto (low? L) (length P) && upto (λ a. upto (twins? P L a) (length P)) (length P)) t)
    where
      tidy-low : (p : ℕ) × (1 ≤ p) × (p ≤ length P) × (low? L p ≡ false) → ⊥
      tidy-low s =
          let h = d s.0 (s.1, s.2) in
          both_ways (low? L s.0) s.3 (and_from _ _ (le-leb _ _ h.0) (and_from _ _ (le-leb _ _ h.1) (eq-eqb _ _ h.2)))

      pairs : (a b : ℕ) → On P a → On P b → twins? P L a b ≡ false → Gap J L
      pairs a b oa ob e =
          let k = or_parts (not (twin? P L a b)) (eqb (label L a) (label L b)) e in
          (by_twins a b, (oa, ob), fits-from P E w J L g.1 (by_twins a b) oa ob (not-false _ k.0), eqb-false _ _ k.1)

      inside : (a : ℕ) → On P a → (b : ℕ) × (1 ≤ b) × (b ≤ length P) × (twins? P L a b ≡ false) → Gap J L
      inside a oa s = pairs a s.0 oa (s.1, s.2) s.3

      outside : (a : ℕ) × (1 ≤ a) × (a ≤ length P) × (upto (twins? P L a) (length P) ≡ false) → Gap J L
      outside s = inside s.0 (s.1, s.2) (some_upto (twins? P L s.0) (length P) s.3)

  -- labels of one class made one, the lower
  lower : (L : List ℕ) (a b : ℕ) → Good P E L → Tidy L → Closure P E a b → label L b < label L a →
      let M = map (to (label L a) (label L b)) L in Good P E M × Tidy M × (total M < total L)
  lower L a b g d c v<u = (good_to P E L a b g c, tidy, less a c.0 refl)
    where
      u : ℕ
      u = label L a

      v : ℕ
      v = label L b

      less : (x : ℕ) → On P x → label L x ≡ label L a → total (map (to u v) L) < total L
      less zero on e = absurd (omega arith)
      less (suc k) on e =
          total_lt (to u v) (to_le u v (omega (arith, v<u))) L k (omega (arith, g.0)) (subst (λ z. z < label L (suc k)) (sym (to_hit u v _ e)) (omega (arith, v<u)))

      at : (p : ℕ) → On P p → label (map (to u v) L) p ≡ to u v (label L p)
      at p on = label_map P E (to u v) L p g.0 on

      on-label : (p : ℕ) → On P p → On P (label L p)
      on-label p on = let h = d p on in (h.0, omega (arith, h.1))

      Fine : ℕ → ℕ → Type 0
      Fine p x = (1 ≤ x) × (x ≤ p) × (label (map (to u v) L) x ≡ x)

      fine : (p : ℕ) → On P p → (t : Bool) → eqb (label L p) u ≡ t → Fine p (cond t v (label L p))
      fine p on true e =
          let hb = d b c.1 in
          let hp = d p on in (
            hb.0,
            omega (arith, v<u, eqb-true _ _ e, hp.1),
            at v (on-label b c.1) ∙ ap (to u v) hb.2 ∙ to_miss u v v (λ q. omega (arith, v<u)),
          )
      fine p on false e =
          let hp = d p on in
          (hp.0, hp.1, at (label L p) (on-label p on) ∙ ap (to u v) hp.2 ∙ to_miss u v _ (eqb-false _ _ e))

      tidy : Tidy (map (to u v) L)
      tidy p on = subst (λ x. Fine p x) (sym (at p on)) (fine p on (eqb (label L p) u) refl)

  abbrev Next : List ℕ → Type 0
  Next L = (J : List Reason) × ((M : List ℕ) × (Good P E M × Tidy M × Grown P E J M × (total M < total L)))

  next : (J : List Reason) (L : List ℕ) → Good P E L → Tidy L → Grown P E J L → Gap J L → Next L
  next J L g d q h = ⊎_elim (λ e. absurd (h.3 e)) (⊎_elim up down) (cases_order (label L l) (label L r))
    where
      s : Reason
      s = h.0

      l : ℕ
      l = left s

      r : ℕ
      r = right s

      K : List Reason
      K = J ++ s ∷ []

      chain : Derivation P E [] K
      chain = join_more_law P E J s q.0 h.2 (λ j. h.3 (tracks_law P J (label L) q.1 _ _ j))

      grown : (M : List ℕ) → Joins (label L) (label M) (length P) l r → Grown P E K M
      grown M j = (chain, tracks_more_law P J s (label L) (label M) q.1 h.1.0 h.1.1 j)

      closed : (M : List ℕ) → Joins (label L) (label M) (length P) l r → Closure P E l r
      closed M j = chain_law P E l r K (chain, (grown M j).1.told l r h.1.0 h.1.1 j.meets)

      down : label L r < label L l → Next L
      down b =
          let j = to_joins P E L l r g.0 h.1.0 h.1.1 in
          let n = lower L l r g d (closed _ j) b in
          (K, (_, (n.0, n.1, grown _ j, n.2)))

      up : label L l < label L r → Next L
      up b =
          let j = swapped _ _ (length P) l r (to_joins P E L r l g.0 h.1.1 h.1.0) in
          let n = lower L r l g d (c_sym P E l r (closed _ j)) b in
          (K, (_, (n.0, n.1, grown _ j, n.2)))

  -- labels that are the closure's, and a chain that joins what they join
  abbrev Settled : Type 0
  Settled = (L : List ℕ) × (Good P E L × (closed? P E L ≡ true) × ((J : List Reason) × Grown P E J L))

  settle : (fuel : ℕ) (J : List Reason) (L : List ℕ) → Good P E L → Tidy L → Grown P E J L → total L ≤ fuel → Settled
  settle zero J L g d q h = go (closed? P E L) refl
    where
      go : (t : Bool) → closed? P E L ≡ t → Settled
      go true e = (L, (g, e, (J, q)))
      go false e = let s = next J L g d q (gap J L q d e) in absurd (omega (arith, s.1.1.3))
  settle (suc k) J L g d q h = go (closed? P E L) refl (λ K M. settle k K M)
    where
      go : (t : Bool) → closed? P E L ≡ t → ((K : List Reason) (M : List ℕ) → Good P E M → Tidy M → Grown P E K M → total M ≤ k → Settled) → Settled
      go true e r = (L, (g, e, (J, q)))
      go false e r =
          let s = next J L g d q (gap J L q d e) in
          r s.0 s.1.0 s.1.1.0 s.1.1.1 s.1.1.2 (omega (arith, s.1.1.3))

  tidy_fresh : Tidy (fresh 1 P)
  tidy_fresh p on =
      let e = label_fresh P p on in
      (omega (arith, e), omega (arith, e), ap (label (fresh 1 P)) e)

  settled : Settled
  settled = settle (total (fresh 1 P)) [] (fresh 1 P) (good-fresh P E w) tidy_fresh (start P E w) (omega arith)

  pub known_all : Known P E
  known_all p on = let s = settled in (label s.0 p, lowest-label P E w s.0 s.1.0 s.1.1 p on)

  pub explained_by : (a b : ℕ) → Closure P E a b → (T : List Reason) × Explains P E a b T
  explained_by a b c =
      let s = settled in
      let low = lowest-label P E w s.0 s.1.0 s.1.1 in
      (s.1.2.0, (s.1.2.1.0, s.1.2.1.1.told a b c.0 c.1 (lowest_same P E a b _ _ c (low a c.0) (low b c.1))))

pub explains_law : ExplainsLaw
explains_law P E w a b c = explained_by P E w a b c
