-- Joins that were chosen, once they are written. Assumes nothing.
use Rattle.std.proofs.Common.{◌≡◌, ℕ, ◌≤◌, Bool, List, length, sym, ap, ◌∙◌, subst, arith}
use Rattle.std.proofs.lemmas.List.{length-map}
use Rattle.theory.specs.Sheet.{Picture}
use Rattle.theory.specs.Slices.{kept}
use Rattle.theory.proofs.Slices.{slice_law}
use Rattle.congruence.specs.declared.journal.Join.{Join}
use Rattle.congruence.specs.Drawn.{reason_of, reasons}
use Rattle.reasons.specs.declared.step.Step.{Step}
use Rattle.reasons.specs.Table.{Rest, Chained, Explained}
use Rattle.reasons.specs.Marks.{Chosen}
use Rattle.reasons.proofs.Marked.{kept_map, kept_few}

-- ks are the marked ones of the joins js
module _ (js : List Join) (bs : List Bool) (ks : List Join) (is : ks ≡ kept bs js) where
  pub told_few : length ks ≤ length js
  told_few = omega (arith, ap length is, kept_few bs js)

  module _ (m : ℕ) (many : m ≡ length ks) (before after : List Step) (ch : Chained (reasons ks) before after) where
    long : m ≡ length (reasons ks)
    long = many ∙ sym (length-map ks reason_of)

    same : reasons ks ≡ kept bs (reasons js)
    same = ap reasons is ∙ sym (kept_map reason_of bs js)

    pub told-rest : Rest m before after
    told-rest = subst (λ (n : ℕ). Rest n before after) (sym long) ch.rest

    pub told : (P : List Picture) (a b : ℕ) → Chosen P (reasons js) a b bs → Explained P (reasons js) a b m before after
    told P a b h E x =
        let e = h E x in
        record {
          steps = kept bs (reasons js);
          many = long ∙ ap length same;
          explains = (slice_law P E (reasons js) x.0 bs e.0, e.1);
          chained = subst (λ T. Chained T before after) same ch;
        }
