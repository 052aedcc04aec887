-- What a cell holds does not rest on its next. Assumes nothing.
use Rattle.std.proofs.Common.{◌≡◌, ℕ, ◌-◌, ◌<◌, List, map, set, sym, refl, ap, ◌∙◌, inl, inr, arith}
use Rattle.std.proofs.lemmas.List.{map-set, set-set}
use Rattle.std.proofs.lemmas.Bool.{cases_eq, cond-true, cond-false, eq-eqb, ne_eqb}
use Rattle.chains.specs.Chain.{after_cell}
use Rattle.chains.specs.Build.{with_next}
use Rattle.chains.specs.declared.walks.Found.{Found}
use Rattle.chains.proofs.Relinked.{no_cell, rest_with_next, links_with_next}
use Rattle.indexes.specs.declared.cell.Cell.{Cell}
use Rattle.indexes.specs.Buckets.{link_of, led_to, lead_in, bucket_of, somes, leads_of, left_out, moved_cell}
use Rattle.indexes.proofs.Moves.{without_next}

module _ (cs : List Cell) (f : Found) where
  abbrev ls : List ℕ
  ls = map link_of cs

  pub links_left_out : map link_of (left_out cs f) ≡ without_next ls f.before f.cell
  links_left_out =
      let n = after_cell ls f.cell in
      elim (cases_eq f.before 0) [
        | inl z ↦ (ap (λ b. map link_of (with_next led_to cs b n)) z ∙ ap (map link_of) (no_cell led_to cs n) ∙ sym (cond-true _ _ _ (eq-eqb f.before 0 z)))
        | inr z ↦ (links_with_next led_to link_of (λ r m. refl) cs f.before n (omega (arith, z)) ∙ sym (cond-false _ _ _ (ne_eqb f.before 0 z)))
      ]

  pub links_moved : (to : ℕ) (b : Cell) → 0 < f.cell → map link_of (moved_cell cs f to b) ≡ set (without_next ls f.before f.cell) (f.cell - 1) to
  links_moved to b z =
      let i = f.cell - 1 in
      links_with_next led_to link_of (λ r m. refl) (set (left_out cs f) i b) f.cell to z
      ∙ ap (λ l. set l i to) (map-set link_of (left_out cs f) i b ∙ ap (λ l. set l i (link_of b)) links_left_out)
      ∙ set-set _ i _ _

  -- what rests on no next is as if only the cell had been written
  rest_moved : {X : Type 0} (g : Cell → X) → ((c : Cell) (n : ℕ) → g (led_to c n) ≡ g c) → (to : ℕ) (b : Cell) → map g (moved_cell cs f to b) ≡ set (map g cs) (f.cell - 1) (g b)
  rest_moved g same to b =
      let i = f.cell - 1 in
      rest_with_next led_to g same (set (left_out cs f) i b) f.cell to
      ∙ map-set g (left_out cs f) i b
      ∙ ap (λ l. set l i (g b)) (rest_with_next led_to g same cs f.before (after_cell ls f.cell))

  pub buckets_moved : (to : ℕ) (b : Cell) → map bucket_of (moved_cell cs f to b) ≡ set (map bucket_of cs) (f.cell - 1) (bucket_of b)
  buckets_moved to b = rest_moved bucket_of (λ c n. refl) to b

  pub leads_moved : (to : ℕ) (b : Cell) → leads_of (moved_cell cs f to b) ≡ somes (set (map lead_in cs) (f.cell - 1) (lead_in b))
  leads_moved to b = ap somes (rest_moved lead_in (λ c n. refl) to b)
