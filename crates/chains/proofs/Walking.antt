-- The turns of a bounded walk; and a chain is never refused by one that may look at all of it. Assumes nothing.
use Rattle.std.proofs.Common.{◌≡◌, ℕ, zero, suc, ◌-◌, ◌<◌, ◌≤◌, Bool, true, false, ◌≢◌, List, [], ◌∷◌, map, length, get_or, Some, None, Ok, Err, Option, Result, sym, refl, ap, ◌∙◌, subst, inl, inr, arith}
use Rattle.std.proofs.lemmas.List.{length-map}
use Rattle.std.proofs.lemmas.Bool.{cases_Bool, cond-true, cond-false, eq-eqb, ne_eqb, lt-ltb, le-ltb}
use Rattle.chains.specs.Chain.{Chain, after_cell}
use Rattle.chains.specs.Walk.{walk_of}
use Rattle.chains.specs.Seek.{seek}
use Rattle.chains.proofs.Paths.{chain_few}
use Rattle.chains.specs.declared.walks.Found.{Found}
use Rattle.chains.specs.declared.fault.ChainFault.{ChainFault}
use Rattle.chains.specs.declared.fault.ChainFault.TheVariants.{Broken}

module _ (links : List ℕ) (marks : List Bool) (b c : ℕ) where
  pub walk_end : (n : ℕ) → c ≡ 0 → walk_of n links marks b c ≡ Ok None
  walk_end zero z = cond-true _ _ _ (eq-eqb c 0 z)
  walk_end (suc n) z = cond-true _ _ _ (eq-eqb c 0 z)

  pub walk_spent : (n : ℕ) → n ≡ 0 → c ≢ 0 → walk_of n links marks b c ≡ Err Broken
  walk_spent zero e z = cond-false _ _ _ (ne_eqb c 0 z)
  walk_spent (suc n) e z = absurd (omega arith)

  pub walk_out : (n : ℕ) → 0 < n → c ≢ 0 → length links < c → walk_of n links marks b c ≡ Err Broken
  walk_out zero l z o = absurd (omega arith)
  walk_out (suc n) l z o = cond-false _ _ _ (ne_eqb c 0 z) ∙ cond-true _ _ _ (lt-ltb (length links) c o)

  pub walk_at : (n : ℕ) → 0 < n → c ≢ 0 → c ≤ length links → get_or marks (c - 1) false ≡ true → walk_of n links marks b c ≡ Ok (Some (record { before = b; cell = c }))
  walk_at zero l z o t = absurd (omega arith)
  walk_at (suc n) l z o t = cond-false _ _ _ (ne_eqb c 0 z) ∙ cond-false _ _ _ (le-ltb (length links) c o) ∙ cond-true _ _ _ t

  pub walk_on : (n m : ℕ) → n ≡ suc m → c ≢ 0 → c ≤ length links → get_or marks (c - 1) false ≡ false → walk_of n links marks b c ≡ walk_of m links marks c (after_cell links c)
  walk_on n m e z o t =
      ap (λ k. walk_of k links marks b c) e ∙ cond-false _ _ _ (ne_eqb c 0 z) ∙ cond-false _ _ _ (le-ltb (length links) c o) ∙ cond-false _ _ _ t

-- where there is a chain, and the walk may look at all of it, it comes to what the chain has
pub walk_chain : (links : List ℕ) (marks : List Bool) (b c : ℕ) (p : List ℕ) (n : ℕ) → Chain links c p → length p ≤ n → walk_of n links marks b c ≡ Ok (seek marks b p)
walk_chain links marks b c [] n a l = walk_end links marks b c n a
walk_chain links marks b c (k ∷ p) zero a l = absurd (omega arith)
walk_chain links marks b c (k ∷ p) (suc n) a l =
    let h : c ≡ k = a.0 in
    let z : c ≢ 0 = λ e. omega (arith, a.0, a.1, e) in
    elim (cases_Bool (get_or marks (k - 1) false)) [
      | inl t ↦
          walk_at links marks b c (suc n) (omega arith) z (omega (arith, a.0, a.2)) (subst (λ x. get_or marks (x - 1) false ≡ true) (sym h) t)
          ∙ ap (λ x. Ok (Some (record { before = b; cell = x }))) h ∙ sym (ap Ok (cond-true _ _ _ t))
      | inr t ↦
          walk_on links marks b c (suc n) n refl z (omega (arith, a.0, a.2)) (subst (λ x. get_or marks (x - 1) false ≡ false) (sym h) t)
          ∙ ap (λ x. walk_of n links marks x (after_cell links x)) h
          ∙ walk_chain links marks k (after_cell links k) p n a.3 (omega arith) ∙ sym (ap Ok (cond-false _ _ _ t))
    ]

-- a walk that may look at each cell comes to what the chain has
pub walk_whole : {R : Type 0} (after : R → ℕ) (xs : List R) (marks : List Bool) (head : ℕ) (r : Result (Option Found) ChainFault) → walk_of (length xs) (map after xs) marks 0 head ≡ r → (p : List ℕ) → Chain (map after xs) head p → r ≡ Ok (seek marks 0 p)
walk_whole after xs marks head r e p a = sym e ∙ walk_chain (map after xs) marks 0 head p (length xs) a (omega (arith, chain_few (map after xs) head p a, length-map xs after))
