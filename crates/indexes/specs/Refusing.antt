-- What enter answers, by cases. Assumes nothing.
use Rattle.std.specs.Prelude.{◌≡◌, ℕ, ◌<◌, ◌≤◌, not, List, length, is_some, Some, None, nat_le}
use Rattle.std.proofs.Common.{ap, ◌∙◌}
use Rattle.std.proofs.lemmas.Bool.{cond-false, le-ltb, lt-leb, and_left, and_right}
use Rattle.indexes.specs.Meaning.{Lead, held, enter_fault}

pub taken_held : (es : List Lead) (o : ℕ) (w : List ℕ) (p : ℕ) → length w ≤ 4 → held es o w ≡ Some p → enter_fault es o w ≡ None
taken_held es o w p s n = cond-false _ _ _ (le-ltb 4 (length w) s) ∙ cond-false _ _ _ (and_right (nat_le 1024 (length es)) (not (is_some (held es o w))) (ap (λ x. not (is_some x)) n))

pub taken_new : (es : List Lead) (o : ℕ) (w : List ℕ) → length w ≤ 4 → length es < 1024 → enter_fault es o w ≡ None
taken_new es o w s l = cond-false _ _ _ (le-ltb 4 (length w) s) ∙ cond-false _ _ _ (and_left (nat_le 1024 (length es)) (not (is_some (held es o w))) (lt-leb 1024 (length es) l))
