-- What a search along a chain found; and that a chain is a proposition. Assumes nothing.
use Rattle.std.proofs.Common.{◌≡◌, ℕ, ◌-◌, Bool, true, false, List, [], ◌∷◌, ◌++◌, get_or, Some, None, sym, ap, ◌∙◌, subst, inl, inr}
use native.Mathlib.Bridge.{le_prop}
use base.Stored.{coded_ℕ}
use denote.Struct.Props.{≡_prop}
use Rattle.std.proofs.lemmas.Bool.{cases_Bool, cases_eq, cond-true, cond-false}
use Rattle.chains.specs.declared.walks.Found.{Found}
use Rattle.chains.specs.Chain.{Chain, Clear, last_or, after_cell}
use Rattle.chains.specs.Seek.{seek}

pub chain_prop : (links : List ℕ) (h : ℕ) (p : List ℕ) → IsProp (Chain links h p)
chain_prop links h [] x y = ≡_prop coded_ℕ _ _ x y
chain_prop links h (k ∷ p) x y = λ i. (≡_prop coded_ℕ _ _ x.0 y.0 i, le_prop x.1 y.1 i, le_prop x.2 y.2 i, chain_prop links (after_cell links k) p x.3 y.3 i)

pub record Sought (marks : List Bool) (b : ℕ) (p : List ℕ) (f : Found) : Type 0 where
  pub front : List ℕ
  pub rest : List ℕ
  pub is : p ≡ front ++ f.cell ∷ rest
  pub before : f.before ≡ last_or b front
  pub marked : get_or marks (f.cell - 1) false ≡ true

pub seek_some : (marks : List Bool) (b : ℕ) (p : List ℕ) (f : Found) → seek marks b p ≡ Some f → Sought marks b p f
seek_some marks b [] f h = cc
seek_some marks b (k ∷ p) f h =
    elim (cases_Bool (get_or marks (k - 1) false)) [
      | inl t ↦
          let e : Some (record { before = b; cell = k }) ≡ Some f = sym (cond-true _ _ _ t) ∙ h in
          let i : record { before = b; cell = k } ≡ f = cc in
          record { front = []; rest = p; is = ap (λ x. x.cell ∷ p) i; before = ap (λ x. x.before) (sym i); marked = subst (λ x. get_or marks (x.cell - 1) false ≡ true) i t }
      | inr t ↦
          let s = seek_some marks k p f (sym (cond-false _ _ _ t) ∙ h) in
          record { front = k ∷ s.front; rest = s.rest; is = ap (λ x. k ∷ x) s.is; before = s.before; marked = s.marked }
    ]

pub seek_none : (marks : List Bool) (b : ℕ) (p : List ℕ) → seek marks b p ≡ None → (k : ℕ) → (Clear k p → ⊥) → get_or marks (k - 1) false ≡ false
seek_none marks b [] h k n = absurd (n tt)
seek_none marks b (j ∷ p) h k n =
    elim (cases_Bool (get_or marks (j - 1) false)) [
      | inl t ↦ let e = sym (cond-true _ _ _ t) ∙ h in cc
      | inr t ↦
          let r : seek marks j p ≡ None = sym (cond-false _ _ _ t) ∙ h in
          elim (cases_eq j k) [
            | inl e ↦ subst (λ x. get_or marks (x - 1) false ≡ false) e t
            | inr ne ↦ seek_none marks j p r k (λ c. n (ne, c))
          ]
    ]
