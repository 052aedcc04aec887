use Rattle.std.proofs.Common.{◌≡◌, ℕ, length, get_or, sym, refl, ap, ◌∙◌, subst, inl, arith, rules}
use Rattle.printouts.specs.Form.{Takes}
use Rattle.printouts.proofs.Spoiling.{spoiled_letter}
use Rattle.printouts.proofs.form.read_line.Goals as goal

pub returns-in_default : goal.returns-in_default
returns-in_default c = inl (refl, spoiled_letter c.args.text.now (λ x r n e t. let h : length c.args.text.now ≡ 0 = search rules in omega (arith, ap length e)))

pub returns-in_default-counts : goal.returns-in_default-counts
returns-in_default-counts c =
    inl (
      refl,
      spoiled_letter c.args.text.now (λ x r n e t.
          let q : c.from-letter.result ≡ x = c.from-letter.ensures ∙ ap (λ y. get_or y 0 0) e in
          let P : ℕ → Type 0 = λ y. Takes y n in
          c.in_default-counts.ensures n (subst P (sym q) t)),
    )
