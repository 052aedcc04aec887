-- What taking a cell out, and putting one behind the last, do to a chain. Assumes nothing.
use Rattle.std.proofs.Common.{◌≡◌, ℕ, ◌-◌, ◌<◌, ◌≤◌, ◌≢◌, List, [], ◌∷◌, ◌++◌, length, set, sym, refl, ◌∙◌, subst, arith, length-set, get_or-set_other, get_or-set_same}
use Rattle.std.proofs.lemmas.List.{append-nil}
use Rattle.chains.specs.Chain.{Chain, Clear, last_or, after_cell}
use Rattle.chains.proofs.Paths.{chain_clear, chain_kept}

clear_last : (k d : ℕ) (p : List ℕ) (q : List ℕ) → (d ≡ k → ⊥) → Clear k (p ++ q) → last_or d p ≡ k → ⊥
clear_last k d [] q ne c e = ne e
clear_last k d (j ∷ p) q ne c e = clear_last k j p q c.0 c.1 e

-- the last cell of a chain is a cell
low : (links : List ℕ) (h j : ℕ) (f q : List ℕ) → Chain links h (j ∷ (f ++ q)) → 0 < last_or j f
low links h j [] q a = a.1
low links h j (i ∷ f) q a = low links (after_cell links j) i f q a.3

-- a cell of a chain is a cell of the table
pub mid_in : (links : List ℕ) (h k : ℕ) (f r : List ℕ) → Chain links h (f ++ k ∷ r) → (0 < k) × (k ≤ length links)
mid_in links h k [] r a = (a.1, a.2)
mid_in links h k (j ∷ f) r a = mid_in links (after_cell links j) k f r a.3

pub last_in : (links : List ℕ) (h d : ℕ) (f r : List ℕ) → d ≤ length links → Chain links h (f ++ r) → last_or d f ≤ length links
last_in links h d [] r l a = l
last_in links h d (j ∷ f) r l a = last_in links (after_cell links j) j f r a.2 a.3

chain_out : (links : List ℕ) (h k : ℕ) (f rest : List ℕ) (cell : ℕ) → Chain links h (k ∷ (f ++ cell ∷ rest)) → Chain (set links (last_or k f - 1) (after_cell links cell)) h (k ∷ (f ++ rest))
chain_out links h k [] rest cell a =
    let i : k - 1 < length links = omega (arith, a.1, a.2) in
    let cl = chain_clear links h k (cell ∷ rest) a in
    let n = after_cell links cell in (
      a.0,
      a.1,
      simp length-set a.2,
      subst (λ x. Chain (set links (k - 1) n) x rest) (sym (get_or-set_same links (k - 1) n 0 i)) (chain_kept links n rest k n a.1 cl.1 a.3.3),
    )
chain_out links h k (j ∷ f) rest cell a =
    let n = after_cell links cell in
    let b = last_or j f in
    let cl = chain_clear links h k (j ∷ (f ++ cell ∷ rest)) a in
    let ne : k - 1 ≢ b - 1 = λ e. clear_last k j f (cell ∷ rest) cl.0 cl.1 (omega (arith, e, a.1, low links (after_cell links k) j f (cell ∷ rest) a.3)) in (
      a.0,
      a.1,
      simp length-set a.2,
      subst (λ x. Chain (set links (b - 1) n) x (j ∷ (f ++ rest))) (sym (get_or-set_other links (b - 1) (k - 1) n 0 ne)) (chain_out links (after_cell links k) j f rest cell a.3),
    )

pub unlinked_first : (links : List ℕ) (h before cell : ℕ) (front rest : List ℕ) → before ≡ 0 → Chain links h (front ++ cell ∷ rest) → before ≡ last_or 0 front → Chain links (after_cell links cell) (front ++ rest)
unlinked_first links h before cell [] rest z a e = a.3
unlinked_first links h before cell (k ∷ f) rest z a e = absurd (omega (arith, low links h k f (cell ∷ rest) a))

pub unlinked_later : (links : List ℕ) (h before cell : ℕ) (front rest : List ℕ) → (before ≡ 0 → ⊥) → Chain links h (front ++ cell ∷ rest) → before ≡ last_or 0 front → Chain (set links (before - 1) (after_cell links cell)) h (front ++ rest)
unlinked_later links h before cell [] rest nz a e = absurd (nz e)
unlinked_later links h before cell (k ∷ f) rest nz a e =
    subst (λ b. Chain (set links (b - 1) (after_cell links cell)) h (k ∷ (f ++ rest))) (sym e) (chain_out links h k f rest cell a)

-- a cell that ends, behind the last one
chain_end : (links : List ℕ) (h k : ℕ) (f : List ℕ) (cell : ℕ) → 0 < cell → cell ≤ length links → after_cell links cell ≡ 0 → Clear cell (k ∷ f) → Chain links h (k ∷ f) → Chain (set links (last_or k f - 1) cell) h (k ∷ (f ++ cell ∷ []))
chain_end links h k [] cell z l n c a =
    let i : k - 1 < length links = omega (arith, a.1, a.2) in
    let ne : cell - 1 ≢ k - 1 = λ e. c.0 (omega (arith, a.1)) in
    (a.0, a.1, simp length-set a.2, (get_or-set_same links (k - 1) cell 0 i, z, simp length-set l, get_or-set_other links (k - 1) (cell - 1) cell 0 ne ∙ n))
chain_end links h k (j ∷ f) cell z l n c a =
    let b = last_or j f in
    let cl = chain_clear links h k (j ∷ f) a in
    let q : Chain links (after_cell links k) (j ∷ (f ++ [])) = subst (λ x. Chain links (after_cell links k) (j ∷ x)) (sym (append-nil f)) a.3 in
    let ne : k - 1 ≢ b - 1 = λ e. clear_last k j f [] cl.0 (subst (Clear k) (sym (append-nil f)) cl.1) (omega (arith, e, a.1, low links (after_cell links k) j f [] q)) in (
      a.0,
      a.1,
      simp length-set a.2,
      subst (λ x. Chain (set links (b - 1) cell) x (j ∷ (f ++ cell ∷ []))) (sym (get_or-set_other links (b - 1) (k - 1) cell 0 ne)) (chain_end links (after_cell links k) j f cell z l n c.1 a.3),
    )

pub last_of_none : (links : List ℕ) (h last cell : ℕ) (p : List ℕ) → 0 < cell → cell ≤ length links → last ≡ 0 → Chain links h p → last ≡ last_or 0 p → Chain (set links (cell - 1) 0) cell (p ++ cell ∷ [])
last_of_none links h last cell [] z l e a f =
    let i : cell - 1 < length links = omega arith in
    (refl, z, simp length-set l, get_or-set_same links (cell - 1) 0 0 i)
last_of_none links h last cell (k ∷ p) z l e a f =
    absurd (omega (arith, low links h k p [] (subst (λ x. Chain links h (k ∷ x)) (sym (append-nil p)) a)))

pub last_of_some : (links : List ℕ) (h last cell : ℕ) (p : List ℕ) → 0 < cell → cell ≤ length links → (last ≡ 0 → ⊥) → Chain links h p → last ≡ last_or 0 p → Clear cell p → Chain (set (set links (cell - 1) 0) (last - 1) cell) h (p ++ cell ∷ [])
last_of_some links h last cell [] z l nz a e c = absurd (nz e)
last_of_some links h last cell (k ∷ p) z l nz a e c =
    let ls = set links (cell - 1) 0 in
    let i : cell - 1 < length links = omega arith in
    subst (λ b. Chain (set ls (b - 1) cell) h (k ∷ (p ++ cell ∷ []))) (sym e)
    (chain_end ls h k p cell z (simp length-set l) (get_or-set_same links (cell - 1) 0 0 i) c (chain_kept links h (k ∷ p) cell 0 z c a))
