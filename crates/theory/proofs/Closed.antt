-- The closure is itself an equivalence that keeps every entry and puts twins together; and its lowest numbers. Assumes nothing.
use Rattle.std.proofs.Common.{◌≡◌, ℕ, ◌≤◌, Bool, true, false, List, [], ◌∷◌, length, All, refl, arith}
use native.Mathlib.Decide.{dec_le}
use Rattle.std.proofs.lemmas.Bool.{both_ways}
use Rattle.std.specs.List.{AllZip}
use Rattle.std.proofs.lemmas.List.Elements.{All-cons, All-head, All-nil, All-tail}
use Rattle.theory.specs.Sheet.{Picture, Entry, same, differ, On, Placed, inputs, Keeps, Is, Twins, Congruence, Closure, Lowest}
use Rattle.theory.proofs.Each.{uncons}

stable_le : (m n : ℕ) → ¬ ¬ (m ≤ n) → m ≤ n
stable_le m n k = go (dec_le m n)
  where
    go : Dec (m ≤ n) → m ≤ n
    go (yes h) = h
    go (no i) = absurd (k i)

stable_true : (b : Bool) → ¬ ¬ (b ≡ true) → b ≡ true
stable_true true k = refl
stable_true false k = absurd (k (λ e. both_ways false refl e))

module _ (P : List Picture) (E : List Entry) where
  -- the closure can be kept as a double negation, which antt sees to be a proposition
  pub c_stable : (a b : ℕ) → ¬ ¬ Closure P E a b → Closure P E a b
  c_stable a b k = (
    (stable_le 1 a (λ i. k (λ c. i c.0.0)), stable_le a (length P) (λ i. k (λ c. i c.0.1))),
    (stable_le 1 b (λ i. k (λ c. i c.1.0)), stable_le b (length P) (λ i. k (λ c. i c.1.1))),
    λ R g. stable_true (R a b) (λ i. k (λ c. i (c.2 R g))),
  )

  pub c_refl : (a : ℕ) → On P a → Closure P E a a
  c_refl a oa = (oa, oa, λ R c. c.reflexive a oa)

  pub c_sym : (a b : ℕ) → Closure P E a b → Closure P E b a
  c_sym a b h = (h.1, h.0, λ R c. c.symmetric a b h.0 h.1 (h.2 R c))

  pub c_trans : (a b c : ℕ) → Closure P E a b → Closure P E b c → Closure P E a c
  c_trans a b c h k = (h.0, k.1, λ R g. g.transitive a b c h.0 h.1 k.1 (h.2 R g) (k.2 R g))

  all_is : (R : ℕ → ℕ → Bool) → Congruence P E R → (xs ys : List ℕ) → AllZip (Closure P E) xs ys → AllZip (Is R) xs ys
  all_is R g [] [] h = tt
  all_is R g [] (y ∷ ys) h = absurd h
  all_is R g (x ∷ xs) [] h = absurd h
  all_is R g (x ∷ xs) (y ∷ ys) h = (h.0.2 R g, all_is R g xs ys h.1)

  pub c_twins : (a b : ℕ) → On P a → On P b → Twins P (Closure P E) a b → Closure P E a b
  c_twins a b oa ob t = (oa, ob, λ R g. g.twins a b oa ob (t.0, all_is R g (inputs P a) (inputs P b) t.1))

  kept : (F : List Entry) → All (Placed P) F → ((R : ℕ → ℕ → Bool) → Congruence P E R → All (Keeps (Is R)) F) → All (Keeps (Closure P E)) F
  kept [] w k = All-nil _
  kept (same a b ∷ F) w k =
      let v = uncons (Placed P) (same a b) F w in
      All-cons (Keeps (Closure P E)) (same a b) F (v.0.0, v.0.1, λ R g. All-head (Keeps (Is R)) (same a b) F (k R g))
      (kept F v.1 (λ R g. All-tail (Keeps (Is R)) (same a b) F (k R g)))
  kept (differ a b ∷ F) w k =
      All-cons (Keeps (Closure P E)) (differ a b) F tt (kept F (All-tail (Placed P) (differ a b) F w) (λ R g. All-tail (Keeps (Is R)) (differ a b) F (k R g)))

  pub c_keeps : All (Placed P) E → All (Keeps (Closure P E)) E
  c_keeps w = kept E w (λ R g. g.keeps)

  -- one class has one lowest number, and one lowest number has one class
  pub lowest_same : (a b m n : ℕ) → Closure P E a b → Lowest P E a m → Lowest P E b n → m ≡ n
  lowest_same a b m n c l k =
      let h : m ≤ n = l.1 n (c_trans a b n c k.0) in
      let g : n ≤ m = k.1 m (c_trans b a m (c_sym a b c) l.0) in
      omega arith

  pub lowest_joins : (a b m : ℕ) → Lowest P E a m → Lowest P E b m → Closure P E a b
  lowest_joins a b m l k = c_trans a m b l.0 (c_sym b m k.0)

  pub lowest_moves : (a b m : ℕ) → Closure P E a b → Lowest P E b m → Lowest P E a m
  lowest_moves a b m c l = (c_trans a b m c l.0, λ q h. l.1 q (c_trans b a q (c_sym a b c) h))

  pub each_joins : (xs ys ms : List ℕ) → AllZip (Lowest P E) xs ms → AllZip (Lowest P E) ys ms → AllZip (Closure P E) xs ys
  each_joins [] [] ms h k = tt
  each_joins [] (y ∷ ys) [] h k = absurd k
  each_joins [] (y ∷ ys) (m ∷ ms) h k = absurd h
  each_joins (x ∷ xs) [] [] h k = absurd h
  each_joins (x ∷ xs) [] (m ∷ ms) h k = absurd k
  each_joins (x ∷ xs) (y ∷ ys) [] h k = absurd h
  each_joins (x ∷ xs) (y ∷ ys) (m ∷ ms) h k = (lowest_joins x y m h.0 k.0, each_joins xs ys ms h.1 k.1)
