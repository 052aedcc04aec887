use Rattle.indexes.specs.Spares.{none_sorted}
use Rattle.indexes.proofs.chained.Chained.new.Goals as goal

pub invariant_of-result-clause-sorted : goal.invariant_of-result-clause-sorted
invariant_of-result-clause-sorted c b l = none_sorted _ _ 1025 b c.in_ok-cells.ensures.items (c.in_ok-heads.ensures.items_if_clones_equal (λ y e. e)) l
