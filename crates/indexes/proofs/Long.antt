-- No record has a row of more than four numbers. Assumes nothing.
use Rattle.std.proofs.Common.{◌≡◌, ℕ, ◌<◌, false, List, [], ◌∷◌, map, length, get_or, None, Some, Option, refl, ap, ◌∙◌, inl, inr, arith, length-take}
use Rattle.std.specs.Option.{option_map}
use Rattle.std.proofs.lemmas.List.{get_or-map, length-map}
use Rattle.std.proofs.lemmas.Bool.{cases_Bool}
use Rattle.indexes.specs.declared.record.Record.{Record}
use Rattle.indexes.specs.declared.cell.Cell.{Cell}
use Rattle.indexes.specs.Meaning.{held, same_signature}
use Rattle.indexes.specs.Records.{lead_of}
use Rattle.indexes.specs.Buckets.{spare, lead_in, bears, leads_of}
use Rattle.indexes.specs.Cells.{none_held}
use Rattle.indexes.specs.Maps.{same_is, cons_other}

module _ (o : ℕ) (w : List ℕ) (long : 4 < length w) where
  differs : (r : Record) → same_signature (lead_of r).op (lead_of r).row o w ≡ false
  differs r =
      elim (cases_Bool (same_signature (lead_of r).op (lead_of r).row o w)) [
        | inl t ↦ absurd (omega (arith, long, ap length (same_is _ o _ w t).1, length-take r.signature.row.len r.signature.row.cells, r.signature.row.short))
        | inr f ↦ f
      ]

  pub none_of_records : (rs : List Record) → held (map lead_of rs) o w ≡ None
  none_of_records [] = refl
  none_of_records (r ∷ rs) = cons_other (lead_of r) (map lead_of rs) o w (differs r) ∙ none_of_records rs

  not_borne : (x : Option Record) → bears (option_map lead_of x) o w ≡ false
  not_borne None = refl
  not_borne (Some r) = differs r

  pub none_of_cells : (cs : List Cell) → held (leads_of cs) o w ≡ None
  none_of_cells cs = none_held (map lead_in cs) o w (λ i l. ap (λ x. bears x o w) (get_or-map lead_in cs i spare None (omega (arith, length-map cs lead_in))) ∙ not_borne (get_or cs i spare).body)
