-- The number of classes: at most the number of pictures, and at most one more with one picture more. Assumes nothing.
use Rattle.std.specs.Prelude.{◌≡◌, ℕ, zero, suc, ◌+◌, ◌≤◌, Bool, true, false, cond, List, [], ◌∷◌, ◌++◌, length, ◌==◌, refl}
use Rattle.std.proofs.Common.{ap, ◌∙◌, add-one, arith}
use Rattle.std.proofs.lemmas.List.{length_push}
use Rattle.keepers.specs.Meaning.{rep, ends, class_count}
use Rattle.keepers.specs.Reps.{rep_old}

ends_few : (rs : List ℕ) (m : ℕ) → ends rs m ≤ m
ends_few rs zero = omega arith
ends_few rs (suc m) =
    let i = ends_few rs m in
    elim (rep rs (suc m) == suc m) as (λ b. ends rs m + cond b 1 0 ≤ suc m) [ true ↦ omega arith | false ↦ omega arith ]

-- there are no more classes than pictures
pub classes_few : (rs : List ℕ) → class_count rs ≤ length rs
classes_few rs = ends_few rs (length rs)

old_ends : (rs : List ℕ) (x m : ℕ) → m ≤ length rs → ends (rs ++ x ∷ []) m ≡ ends rs m
old_ends rs x zero le = refl
old_ends rs x (suc m) le =
    let i = old_ends rs x m (omega arith) in
    let e : cond {A = ℕ} (rep (rs ++ x ∷ []) (suc m) == suc m) 1 0 ≡ cond {A = ℕ} (rep rs (suc m) == suc m) 1 0
    = ap (λ (v : ℕ). cond {A = ℕ} (v == suc m) 1 0) (rep_old rs x (suc m) (omega arith, le)) in
    omega arith

one_more : (b : Bool) (n : ℕ) → n + cond b 1 0 ≤ suc n
one_more true n = omega arith
one_more false n = omega arith

-- one picture more makes at most one class more
pub classes_push : (rs rs' : List ℕ) (x : ℕ) → rs' ≡ rs ++ x ∷ [] → class_count rs' ≤ class_count rs + 1
classes_push rs rs' x e =
    let n : ℕ = length rs in
    let o = old_ends rs x n (omega arith) in
    let k = one_more (rep (rs ++ x ∷ []) (suc n) == suc n) (ends (rs ++ x ∷ []) n) in
    let c : class_count rs' ≡ ends (rs ++ x ∷ []) (suc n) = ap class_count e ∙ ap (ends (rs ++ x ∷ [])) (length_push rs x ∙ add-one n) in
    omega arith
