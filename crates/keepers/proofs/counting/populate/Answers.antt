use Rattle.std.proofs.Common.{◌≡◌, ℕ, ◌+◌, List, ◌∷◌, [], ◌++◌, ap, ◌∙◌, sym, arith}
use Rattle.std.proofs.lemmas.List.{map-id}
use Rattle.std.proofs.lemmas.List.FromFn.{map-range_with_len_more, length-range_with_len}
use Rattle.std.specs.List.{range_with_len}
use Rattle.keepers.proofs.counting.populate.Goals as goal

one_more : (n : ℕ) → range_with_len 1 (n + 1) ≡ range_with_len 1 n ++ (n + 1) ∷ []
one_more n =
    sym (map-id (range_with_len 1 (n + 1)))
    ∙ (map-range_with_len_more (λ x. x) 1 n (n + 1) (omega arith) ∙ ap (λ (xs : List ℕ). xs ++ (n + 1) ∷ []) (map-id (range_with_len 1 n)))

pub returns-in_err-grow : goal.returns-in_err-grow
returns-in_err-grow g c = grind (arith, length-range_with_len)

pub loop-preserved : goal.loop-preserved
loop-preserved g c = grind (arith, length-range_with_len, one_more)
