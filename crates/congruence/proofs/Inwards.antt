-- The index leads to pictures of the sheet only. Assumes nothing.
use Rattle.std.proofs.Common.{◌≡◌, ℕ, List, [], Some, None, Option, sym, ◌∙◌, subst, inl, inr, arith}
use Rattle.std.proofs.lemmas.Bool.{cases_Bool, cond-true, cond-false}
use Rattle.indexes.specs.Meaning.{Lead, held, leading, same_signature}
use Rattle.congruence.specs.Working.{Inward}

-- a signature is left out
pub deleted_inward : (n : ℕ) (m m' : ℕ → List ℕ → Option ℕ) (o : ℕ) (w : List ℕ) → ((q : ℕ) (v : List ℕ) → m' q v ≡ leading m o w None q v) → Inward n m → Inward n m'
deleted_inward n m m' o w is h q v x e =
    elim (cases_Bool (same_signature o w q v)) [
      | inl t ↦ let z : ◌≡◌ {A = Option ℕ} None (Some x) = sym (is q v ∙ cond-true _ _ _ t) ∙ e in let y : ◌≡◌ {A = ℕ} 0 1 = cc in absurd (omega arith)
      | inr f ↦ h q v x (sym (is q v ∙ cond-false _ _ _ f) ∙ e)
    ]

-- an empty index leads nowhere
pub empty_inward : (n : ℕ) (es : List Lead) → es ≡ [] → Inward n (held es)
empty_inward n es e = subst (λ (xs : List Lead). Inward n (held xs)) (sym e) (λ o w q h. let y : ◌≡◌ {A = ℕ} 0 1 = cc in absurd (omega arith))
