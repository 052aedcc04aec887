-- An index in which each signature leads to a picture of its own, one of 1 to i, holds at most i. Assumes nothing.
use Rattle.std.proofs.Common.{◌≡◌, ℕ, zero, suc, ◌+◌, ◌<◌, ◌≤◌, true, false, cond, not, ◌≢◌, List, [], ◌∷◌, length, is_some, Some, None, Option, sym, refl, ap, ◌∙◌, ⊎_elim, arith}
use Rattle.std.proofs.lemmas.Bool.{cases_Bool, cases_eq, cond-true, cond-false, both_ways, and_from}
use Rattle.indexes.specs.Meaning.{Lead, held, apart, same_signature}
use Rattle.indexes.specs.Maps.{same_is, is_same, apart_parts, held_same}
use Rattle.congruence.proofs.Options.{none_some}

-- the signature taken out
abbrev pub less : ℕ → List ℕ → List Lead → List Lead
less o w [] = []
less o w (e ∷ es) = cond (same_signature e.op e.row o w) es (e ∷ less o w es)

pub less_length : (o : ℕ) (w : List ℕ) (es : List Lead) → length es ≤ length (less o w es) + 1
less_length o w [] = omega arith
less_length o w (e ∷ es) = ⊎_elim
    (λ h. let k : length (less o w (e ∷ es)) ≡ length es = ap length (cond-true _ _ _ h) in omega arith)
    (λ h. let k : length (less o w (e ∷ es)) ≡ length (e ∷ less o w es) = ap length (cond-false _ _ _ h) in
    let i = less_length o w es in omega arith)
    (cases_Bool (same_signature e.op e.row o w))

other_false : (o q : ℕ) (w v : List ℕ) → (same_signature o w q v ≡ true → ⊥) → same_signature o w q v ≡ false
other_false o q w v n = ⊎_elim (λ h. absurd (n h)) (λ h. h) (cases_Bool (same_signature o w q v))

pub less_held : (o : ℕ) (w : List ℕ) (es : List Lead) → apart es ≡ true → (q : ℕ) (v : List ℕ) (p : ℕ) → held (less o w es) q v ≡ Some p →
    (held es q v ≡ Some p) × (same_signature o w q v ≡ false)
less_held o w [] a q v p h = absurd (none_some None p refl h)
less_held o w (e ∷ es) a q v p h = ⊎_elim
    (λ s.
    let k : held es q v ≡ Some p = ap (λ (t : List Lead). held t q v) (sym (cond-true _ _ _ s)) ∙ h in
    let n : same_signature e.op e.row q v ≡ false = other_false e.op q e.row v (λ z. none_some (held es q v) p (held_same es e.op q e.row v z ∙ (apart_parts e es a).0) k) in
    let i = same_is e.op o e.row w s in
    (cond-false _ _ _ n ∙ k, ap (λ (t : ℕ). same_signature t w q v) (sym i.0) ∙ ap (λ (t : List ℕ). same_signature e.op t q v) (sym i.1) ∙ n))
    (λ s.
    let k : held (e ∷ less o w es) q v ≡ Some p = ap (λ (t : List Lead). held t q v) (sym (cond-false _ _ _ s)) ∙ h in
    ⊎_elim
    (λ z. (
      cond-true _ _ _ z ∙ sym (cond-true _ _ _ z) ∙ k,
      other_false o q w v (λ y.
          let i = same_is o q w v y in
          let j = same_is e.op q e.row v z in
          both_ways _ s (is_same e.op o e.row w (j.0 ∙ sym i.0) (j.1 ∙ sym i.1))),
    ))
    (λ z. let r = less_held o w es (apart_parts e es a).1 q v p (sym (cond-false _ _ _ z) ∙ k) in (cond-false _ _ _ z ∙ r.0, r.1))
    (cases_Bool (same_signature e.op e.row q v)))
    (cases_Bool (same_signature e.op e.row o w))

not_some : (x : Option ℕ) → ((p : ℕ) → x ≡ Some p → ⊥) → not (is_some x) ≡ true
not_some None n = refl
not_some (Some p) n = absurd (n p refl)

pub less_apart : (o : ℕ) (w : List ℕ) (es : List Lead) → apart es ≡ true → apart (less o w es) ≡ true
less_apart o w [] a = refl
less_apart o w (e ∷ es) a = ⊎_elim
    (λ s. ap apart (cond-true _ _ _ s) ∙ (apart_parts e es a).1)
    (λ s. ap apart (cond-false _ _ _ s) ∙ and_from (not (is_some (held (less o w es) e.op e.row))) (apart (less o w es))
    (not_some _ (λ p h. none_some _ p (apart_parts e es a).0 (less_held o w es (apart_parts e es a).1 e.op e.row p h).0))
    (less_apart o w es (apart_parts e es a).1))
    (cases_Bool (same_signature e.op e.row o w))

pub pigeons : (o : ℕ → ℕ) (w : ℕ → List ℕ) (i : ℕ) (es : List Lead) → apart es ≡ true →
    ((q : ℕ) (v : List ℕ) (p : ℕ) → held es q v ≡ Some p → (1 ≤ p) × (p ≤ i) × (o p ≡ q) × (w p ≡ v)) → length es ≤ i
pigeons o w zero [] a h = omega arith
pigeons o w zero (e ∷ es) a h =
    let b = h e.op e.row e.picture (cond-true _ _ _ (is_same e.op e.op e.row e.row refl refl)) in
    absurd (omega (arith, b.0, b.1))
pigeons o w (suc i) es a h =
    let l = less_length (o (suc i)) (w (suc i)) es in
    let r = pigeons o w i (less (o (suc i)) (w (suc i)) es) (less_apart (o (suc i)) (w (suc i)) es a)
    (λ q v p k.
    let d = less_held (o (suc i)) (w (suc i)) es a q v p k in
    let b = h q v p d.0 in (
      b.0,
      ⊎_elim
          (λ e. absurd (both_ways _ d.1 (is_same (o (suc i)) q (w (suc i)) v (ap o (sym e) ∙ b.2) (ap w (sym e) ∙ b.3))))
          (λ n. omega (arith, n, b.1)) (cases_eq p (suc i)),
      b.2,
      b.3,
    )) in
    omega (arith, l, r)

-- where none leads to the picture z, there is room for its signature
pub pigeons_but : (o : ℕ → ℕ) (w : ℕ → List ℕ) (z i : ℕ) (es : List Lead) → apart es ≡ true → 1 ≤ z → z ≤ i →
    ((q : ℕ) (v : List ℕ) (p : ℕ) → held es q v ≡ Some p → (1 ≤ p) × (p ≤ i) × (o p ≡ q) × (w p ≡ v) × (p ≢ z)) → length es < i
pigeons_but o w z zero es a l u h = absurd (omega arith)
pigeons_but o w z (suc i) es a l u h =
    ⊎_elim
    (λ e.
    let k = pigeons o w i es a (λ q v p s. let b = h q v p s in (b.0, omega (arith, b.1, b.4, e), b.2, b.3)) in
    omega (arith, k))
    (λ ne.
    let s = less_length (o (suc i)) (w (suc i)) es in
    let r = pigeons_but o w z i (less (o (suc i)) (w (suc i)) es) (less_apart (o (suc i)) (w (suc i)) es a) l (omega (arith, u, ne))
    (λ q v p k.
    let d = less_held (o (suc i)) (w (suc i)) es a q v p k in
    let b = h q v p d.0 in (
      b.0,
      ⊎_elim
          (λ e. absurd (both_ways _ d.1 (is_same (o (suc i)) q (w (suc i)) v (ap o (sym e) ∙ b.2) (ap w (sym e) ∙ b.3))))
          (λ n. omega (arith, n, b.1))
          (cases_eq p (suc i)),
      b.2,
      b.3,
      b.4,
    )) in
    omega (arith, s, r))
    (cases_eq z (suc i))
