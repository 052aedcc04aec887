-- The records once a cell has another next. Assumes nothing.
use Rattle.std.proofs.Common.{◌≡◌, ℕ, zero, suc, ◌-◌, ◌<◌, ◌≤◌, true, false, ltb, leb, List, [], ◌∷◌, map, length, get_or, set, sym, refl, ap, ◌∙◌, subst, inl, inr, arith}
use Rattle.std.proofs.lemmas.Bool.{and_parts, and_from, and_cases, lt-ltb, le-leb, ltb-true, ltb-false, leb-true, leb-false}
use Rattle.chains.specs.Build.{is_cell, with_next}

-- a cell of the table, told by the test
pub cell_is : (n k : ℕ) → is_cell n k ≡ true → (0 < k) × (k ≤ n)
cell_is n k h = let p = and_parts (ltb 0 k) (leb k n) h in (ltb-true 0 k p.0, leb-true k n p.1)

pub is_the_cell : (n k : ℕ) → 0 < k → k ≤ n → is_cell n k ≡ true
is_the_cell n k z l = and_from (ltb 0 k) (leb k n) (lt-ltb 0 k z) (le-leb k n l)

module _ {R : Type 0} (led : R → ℕ → R) where
  pub no_cell : (xs : List R) (n : ℕ) → with_next led xs 0 n ≡ xs
  no_cell [] n = refl
  no_cell (r ∷ xs) n = refl

  pub past_cells : (xs : List R) (k n : ℕ) → length xs < k → with_next led xs k n ≡ xs
  past_cells [] k n l = refl
  past_cells (r ∷ xs) zero n l = refl
  past_cells (r ∷ xs) (suc zero) n l = absurd (omega arith)
  past_cells (r ∷ xs) (suc (suc k)) n l = ap (λ ys. r ∷ ys) (past_cells xs (suc k) n (omega arith))

  pub not_cell : (xs : List R) (k n : ℕ) → is_cell (length xs) k ≡ false → with_next led xs k n ≡ xs
  not_cell xs k n h =
      elim (and_cases (ltb 0 k) (leb k (length xs)) h) [
        | inl a ↦
            let z : k ≡ 0 = omega (arith, ltb-false 0 k a) in
            subst (λ j. with_next led xs j n ≡ xs) (sym z) (no_cell xs n)
        | inr a ↦ past_cells xs k n (leb-false k (length xs) a)
      ]

  pub at_cell : (xs : List R) (k n : ℕ) (d : R) → 0 < k → k ≤ length xs → with_next led xs k n ≡ set xs (k - 1) (led (get_or xs (k - 1) d) n)
  at_cell [] k n d z l = refl
  at_cell (r ∷ xs) zero n d z l = absurd (omega arith)
  at_cell (r ∷ xs) (suc zero) n d z l = refl
  at_cell (r ∷ xs) (suc (suc k)) n d z l =
      let e : suc (suc k) - 1 ≡ suc (suc k - 1) = omega arith in
      ap (λ ys. r ∷ ys) (at_cell xs (suc k) n d (omega arith) (omega arith))
      ∙ ap (λ i. set (r ∷ xs) i (led (get_or (r ∷ xs) i d) n)) (sym e)

  pub length-with_next : (xs : List R) (k n : ℕ) → length (with_next led xs k n) ≡ length xs
  length-with_next [] k n = refl
  length-with_next (r ∷ xs) zero n = refl
  length-with_next (r ∷ xs) (suc zero) n = refl
  length-with_next (r ∷ xs) (suc (suc k)) n = ap suc (length-with_next xs (suc k) n)

  -- what does not rest on the next stays
  pub rest_with_next : {X : Type 0} (f : R → X) → ((r : R) (n : ℕ) → f (led r n) ≡ f r) → (xs : List R) (k n : ℕ) → map f (with_next led xs k n) ≡ map f xs
  rest_with_next f same [] k n = refl
  rest_with_next f same (r ∷ xs) zero n = refl
  rest_with_next f same (r ∷ xs) (suc zero) n = ap (λ y. y ∷ map f xs) (same r n)
  rest_with_next f same (r ∷ xs) (suc (suc k)) n = ap (λ ys. f r ∷ ys) (rest_with_next f same xs (suc k) n)

  pub links_with_next : (after : R → ℕ) → ((r : R) (n : ℕ) → after (led r n) ≡ n) → (xs : List R) (k n : ℕ) → 0 < k → map after (with_next led xs k n) ≡ set (map after xs) (k - 1) n
  links_with_next after law [] k n z = refl
  links_with_next after law (r ∷ xs) zero n z = absurd (omega arith)
  links_with_next after law (r ∷ xs) (suc zero) n z = ap (λ y. y ∷ map after xs) (law r n)
  links_with_next after law (r ∷ xs) (suc (suc k)) n z =
      let e : suc (suc k) - 1 ≡ suc (suc k - 1) = omega arith in
      ap (λ ys. after r ∷ ys) (links_with_next after law xs (suc k) n (omega arith)) ∙ ap (λ i. set (after r ∷ map after xs) i n) (sym e)
