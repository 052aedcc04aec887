-- Rows of inputs, pair by pair. Assumes nothing.
use Rattle.std.proofs.Common.{◌≡◌, ℕ, zero, suc, ◌+◌, ◌-◌, ◌<◌, ◌≤◌, List, length, get_or, take, sym, refl, ap, ◌∙◌, subst₂, arith}
use Rattle.std.specs.List.{AllZip}
use Rattle.std.proofs.lemmas.List.{take_all, take_more, get_or-map}
use Rattle.std.proofs.lemmas.List.Elements.{AllZip-push}
use Rattle.theory.specs.Sheet.{blank, inputs}
use Rattle.rows.specs.Row.{cells_of}
use Rattle.congruence.specs.declared.picture.Picture.{Picture}
use Rattle.congruence.specs.Drawn.{drawn, sheet}

module _ (R : ℕ → ℕ → Type 0) (xs ys : List ℕ) where
  -- one pair more
  pub pairs_more : (k : ℕ) → k < length xs → k < length ys → AllZip R (take k xs) (take k ys) → R (get_or xs k 0) (get_or ys k 0) → AllZip R (take (k + 1) xs) (take (k + 1) ys)
  pairs_more k l u h r = subst₂ (λ a b. AllZip R a b) (sym (take_more xs k 0 l)) (sym (take_more ys k 0 u)) (AllZip-push R (take k xs) (take k ys) _ _ h r)

  -- all pairs
  pub pairs_all : (k : ℕ) → length xs ≤ k → length ys ≤ k → AllZip R (take k xs) (take k ys) → AllZip R xs ys
  pairs_all k l u h = subst₂ (λ a b. AllZip R a b) (take_all k xs l) (take_all k ys u) h

-- the inputs of picture p stand at place p - 1
pub inputs_at : (ps : List Picture) (p : ℕ) (d : Picture) → (p ≡ 0 → ⊥) → p ≤ length ps → inputs (sheet ps) p ≡ cells_of (get_or ps (p - 1) d).inputs
inputs_at ps zero d n l = absurd (n refl)
inputs_at ps (suc p) d n l = ap (λ q. q.inputs) (get_or-map drawn ps p d blank (omega arith)) ∙ ap (λ k. cells_of (get_or ps k d).inputs) (omega arith)
