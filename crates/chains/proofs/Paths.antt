-- Laws of chains: a head has one chain, its cells differ, and so it is no longer than the table. Assumes nothing.
use Rattle.std.proofs.Common.{◌≡◌, ℕ, zero, suc, ◌-◌, ◌<◌, ◌≤◌, true, false, cond, eqb, ◌≢◌, List, [], ◌∷◌, length, get_or, drop, set, sym, refl, ap, ◌∙◌, subst, inl, inr, arith, length-drop, length-set, get_or-set_other, get_or-set_same}
use Rattle.std.specs.List.{IsDistinct, AllByRecursion, list_any}
use Rattle.std.proofs.lemmas.Bool.{eqb-true, eq-eqb, ne_eqb, or_cases, cond-true, cond-false, true≢false}
use Rattle.std.proofs.lemmas.Map.Keys.{IsDistinct-cons}
use Rattle.std.proofs.lemmas.Map.Steps.{length-le_from_distinct_below}
use Rattle.chains.specs.Chain.{Chain, Clear, after_cell}

pub chain_unique : (links : List ℕ) (h : ℕ) (p q : List ℕ) → Chain links h p → Chain links h q → p ≡ q
chain_unique links h [] [] a b = refl
chain_unique links h [] (k ∷ q) a b = absurd (omega (arith, b.0, b.1))
chain_unique links h (j ∷ p) [] a b = absurd (omega (arith, a.0, a.1))
chain_unique links h (j ∷ p) (k ∷ q) a b =
    let e : j ≡ k = sym a.0 ∙ b.0 in
    let r : p ≡ q = chain_unique links (after_cell links k) p q (subst (λ x. Chain links (after_cell links x) p) e a.3) b.3 in
    cc

-- what is left of a chain is one
pub chain_drop : (links : List ℕ) (h : ℕ) (p : List ℕ) (i : ℕ) → i < length p → Chain links h p → Chain links (get_or p i 0) (drop i p)
chain_drop links h [] i l a = absurd (omega arith)
chain_drop links h (k ∷ p) zero l a = (refl, a.1, a.2, a.3)
chain_drop links h (k ∷ p) (suc i) l a = chain_drop links (after_cell links k) p i (omega arith) a.3

clear_from : (k : ℕ) (p : List ℕ) → ((i : ℕ) → i < length p → get_or p i 0 ≡ k → ⊥) → Clear k p
clear_from k [] f = tt
clear_from k (j ∷ p) f = (f 0 (omega arith), clear_from k p (λ i l. f (suc i) (omega arith)))

-- the first cell of a chain does not come again
pub chain_clear : (links : List ℕ) (h k : ℕ) (p : List ℕ) → Chain links h (k ∷ p) → Clear k p
chain_clear links h k p a =
    clear_from k p (λ i l e.
    let c : Chain links k (drop i p) = subst (λ x. Chain links x (drop i p)) e (chain_drop links (after_cell links k) p i l a.3) in
    let u : drop i p ≡ k ∷ p = chain_unique links k (drop i p) (k ∷ p) c (refl, a.1, a.2, a.3) in
    omega (arith, ap length u, length-drop i p))

-- a chain does not have cell 0
pub no_zero : (links : List ℕ) (h : ℕ) (p : List ℕ) → Chain links h p → Clear 0 p
no_zero links h [] a = tt
no_zero links h (k ∷ p) a = ((λ e. omega (arith, e, a.1)), no_zero links (after_cell links k) p a.3)

-- ---- the cells of a chain differ, and are no more than those of the table
apart : (k : ℕ) (p : List ℕ) → Clear k p → AllByRecursion (λ j. eqb k j ≡ false) p
apart k [] c = tt
apart k (j ∷ p) c = (ne_eqb k j (λ e. c.0 (sym e)), apart k p c.1)

distinct : (links : List ℕ) (h : ℕ) (p : List ℕ) → Chain links h p → IsDistinct eqb p
unfolding IsDistinct
distinct links h [] a = tt
distinct links h (k ∷ p) a = (apart k p (chain_clear links h k p a), distinct links (after_cell links k) p a.3)

upto : (links : List ℕ) (h : ℕ) (p : List ℕ) → Chain links h p → (k : ℕ) → list_any (eqb k) p ≡ true → k ≤ length links
upto links h [] a k m = absurd (true≢false (sym m))
upto links h (j ∷ p) a k m =
    elim (or_cases (eqb k j) (list_any (eqb k) p) m) [
      | inl e ↦ omega (arith, eqb-true k j e, a.2)
      | inr r ↦ upto links (after_cell links j) p a.3 k r
    ]

-- with cell 0 in front they are different numbers up to that of the last cell
pub chain_few : (links : List ℕ) (h : ℕ) (p : List ℕ) → Chain links h p → length p ≤ length links
chain_few links h p a =
    let all = length-le_from_distinct_below (0 ∷ p) (suc (length links)) (IsDistinct-cons eqb 0 p (apart 0 p (no_zero links h p a)) (distinct links h p a)) (λ k m.
    elim (or_cases (eqb k 0) (list_any (eqb k) p) m) [
      | inl e ↦ omega (arith, eqb-true k 0 e)
      | inr r ↦ omega (arith, upto links h p a k r)
    ]) in
    omega arith

-- ---- the path as it is walked
abbrev pub trail : ℕ → List ℕ → ℕ → List ℕ
trail zero links c = []
trail (suc n) links c = cond (eqb c 0) [] (c ∷ trail n links (after_cell links c))

trail_within : (n : ℕ) (links : List ℕ) (c : ℕ) (p : List ℕ) → length p ≤ n → Chain links c p → trail n links c ≡ p
trail_within zero links c [] l a = refl
trail_within zero links c (k ∷ p) l a = absurd (omega arith)
trail_within (suc n) links c [] l a = cond-true (eqb c 0) _ _ (eq-eqb c 0 a)
trail_within (suc n) links c (k ∷ p) l a =
    let ne : c ≡ 0 → ⊥ = λ e. omega (arith, a.0, a.1, e) in
    let r : trail n links (after_cell links c) ≡ p = trail_within n links (after_cell links c) p (omega arith) (subst (λ x. Chain links (after_cell links x) p) (sym a.0) a.3) in
    let h : c ≡ k = a.0 in
    cond-false (eqb c 0) _ _ (ne_eqb c 0 ne) ∙ (cc)

pub trail_is : (links : List ℕ) (c : ℕ) (p : List ℕ) → Chain links c p → trail (length links) links c ≡ p
trail_is links c p a = trail_within (length links) links c p (chain_few links c p a) a

-- ---- writes
-- a write to a cell that the chain does not have leaves it
pub chain_kept : (links : List ℕ) (h : ℕ) (p : List ℕ) (k v : ℕ) → 0 < k → Clear k p → Chain links h p → Chain (set links (k - 1) v) h p
chain_kept links h [] k v z c a = a
chain_kept links h (j ∷ p) k v z c a =
    let ne : j - 1 ≢ k - 1 = λ e. c.0 (omega (arith, a.1)) in
    let g : after_cell (set links (k - 1) v) j ≡ after_cell links j = get_or-set_other links (k - 1) (j - 1) v 0 ne in (
      a.0,
      a.1,
      simp length-set a.2,
      subst (λ x. Chain (set links (k - 1) v) x p) (sym g) (chain_kept links (after_cell links j) p k v z c.1 a.3),
    )

-- a cell put in front
pub chain_front : (links : List ℕ) (h : ℕ) (p : List ℕ) (k : ℕ) → 0 < k → k ≤ length links → Clear k p → Chain links h p → Chain (set links (k - 1) h) k (k ∷ p)
chain_front links h p k z l c a =
    let i : k - 1 < length links = omega arith in
    (refl, z, simp length-set l, subst (λ x. Chain (set links (k - 1) h) x p) (sym (get_or-set_same links (k - 1) h 0 i)) (chain_kept links h p k h z c a))
