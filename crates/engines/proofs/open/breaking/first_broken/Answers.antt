use Rattle.std.proofs.Common.{ℕ, List, length, get_or, sym, ap, ◌∙◌, subst, inl, inr, arith}
use Rattle.std.proofs.lemmas.List.Elements.{All-get_or}
use Rattle.std.proofs.lemmas.List.{get_or_default}
use Rattle.std.proofs.lemmas.Bool.{cases_eq}
use Rattle.engines.specs.declared.entry.Entry.TheVariants.{Same}
use Rattle.engines.specs.Breaking.{broken, Inside}
use Rattle.engines.proofs.open.breaking.first_broken.Goals as goal

pub is_broken-requires : goal.is_broken-requires
is_broken-requires g c =
    let n = ap length c.loop-i.invariant.0 in
    let E = c.args.entries.now in
    subst (λ (k : ℕ). Inside k (get_or E c.loop-i.i (Same 0 0))) (sym n) (All-get_or (Inside (length (g.K.Keeper.reps c.args.k.now))) E c.loop-i.i (Same 0 0) (omega arith) c.requires)

pub returns-then-is_broken : goal.returns-then-is_broken
returns-then-is_broken g c =
    let same = c.loop-i.invariant.0 in
    let E = c.args.entries.now in
    let i : ℕ = c.loop-i.i in
    record {
      answer = (
        omega arith,
        (λ d. ap (broken (g.K.Keeper.reps c.args.k.now)) (get_or_default E i d (Same 0 0) (omega arith))
            ∙ (ap (λ (rs : List ℕ). broken rs (get_or E i (Same 0 0))) (sym same) ∙ (sym c.is_broken.ensures.answer ∙ c.if-is_broken.true))),
        c.loop-i.invariant.1,
      );
      same = c.is_broken.ensures.same ∙ same;
    }

pub loop-i-preserved : goal.loop-i-preserved
loop-i-preserved g c =
    let same = c.loop-i.invariant.0 in
    let rs = g.K.Keeper.reps c.args.k.now in
    let E = c.args.entries.now in
    let i : ℕ = c.loop-i.i in (
      c.is_broken.ensures.same ∙ same,
      λ k d h l. elim (cases_eq k i) [
        | inl e ↦ ap (λ (j : ℕ). broken rs (get_or E j d)) e ∙ (ap (broken rs) (get_or_default E i d (Same 0 0) (omega arith))
            ∙ (ap (λ (xs : List ℕ). broken xs (get_or E i (Same 0 0))) (sym same) ∙ (sym c.is_broken.ensures.answer ∙ c.if-is_broken.false)))
        | inr n ↦ c.loop-i.invariant.1 k d (omega arith) l
      ],
    )
