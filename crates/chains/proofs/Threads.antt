-- Cells chained in their order. Assumes nothing.
use Rattle.std.proofs.Common.{◌≡◌, ℕ, zero, suc, ◌+◌, ◌<◌, ◌≤◌, ltb, ◌≢◌, List, [], ◌∷◌, map, length, get_or, sym, refl, ap, ◌∙◌, subst, arith}
use Rattle.std.specs.List.{range_with_len}
use Rattle.std.proofs.lemmas.List.{get_or-map, length-map}
use Rattle.std.proofs.lemmas.Bool.{cond-true, cond-false, lt-ltb, le-ltb}
use Rattle.chains.specs.Chain.{Chain, after_cell}
use Rattle.chains.specs.Thread.{next_in, Threaded}

module _ {R : Type 0} (led : R → ℕ → R) (after : R → ℕ) (law : (r : R) (n : ℕ) → after (led r n) ≡ n) (m : ℕ) (xs ys : List R) (e : length ys ≡ length xs) (u : m ≤ length xs) (h : Threaded led m m xs ys) where
  link_at : (d : R) (k : ℕ) → k < m → after_cell (map after ys) (k + 1) ≡ next_in m k
  link_at d k l =
      ap (λ j. get_or (map after ys) j 0) (omega arith) ∙ get_or-map after ys k d 0 (omega arith)
      ∙ ap after (h k d (omega arith) ∙ cond-true (ltb k m) _ _ (lt-ltb k m l)) ∙ law _ _

  -- j cells are left, and the walk stands at the place i
  chain-from : (d : R) (j i : ℕ) → i + suc j ≡ m → Chain (map after ys) (i + 1) (range_with_len (i + 1) (suc j))
  chain-from d zero i q =
      (refl, omega arith, omega (arith, length-map ys after), link_at d i (omega arith) ∙ cond-false (ltb (i + 1) m) _ _ (le-ltb (i + 1) m (omega arith)))
  chain-from d (suc j) i q = (
    refl,
    omega arith,
    omega (arith, length-map ys after),
    subst (λ z. Chain (map after ys) z (range_with_len (i + 1 + 1) (suc j)))
        (sym (link_at d i (omega arith) ∙ cond-true (ltb (i + 1) m) _ _ (lt-ltb (i + 1) m (omega arith)) ∙ omega arith))
        (chain-from d j (i + 1) (omega arith)),
  )

  -- the chain that the places make
  pub thread-chain : m ≢ 0 → Chain (map after ys) 1 (range_with_len 1 m)
  thread-chain nz = go m xs refl u
    where
      go : (n : ℕ) (zs : List R) → n ≡ m → n ≤ length zs → Chain (map after ys) 1 (range_with_len 1 n)
      go zero zs q l = absurd (nz (sym q))
      go (suc j) [] q l = absurd (omega arith)
      go (suc j) (z ∷ zs) q l = chain-from z j 0 (omega arith)
