use Rattle.std.proofs.Common.{◌≡◌, ℕ, ◌+◌, ◌<◌, List, ◌++◌, map, length, get_or, take, drop, set, sym, ap, ◌∙◌, arith, rules}
use Rattle.std.proofs.lemmas.List.{take_all, drop_all, append-nil, get_or_default}
use Rattle.std.proofs.lemmas.List.Edits.{map_over_more}
use Rattle.keepers.specs.Meaning.{moved}
use Rattle.keepers.specs.Reps.{moved_hit, moved_miss}
use Rattle.keepers.proofs.relabel.relabel_row.Goals as goal
use Rattle.keepers.proofs.relabel.relabel_row.Goals.{then-x-lost, else-x-lost}

over : (f : ℕ → ℕ) (xs ys zs : List ℕ) (i v : ℕ) → i < length xs → length ys ≡ length xs → ys ≡ map f (take i xs) ++ drop i xs → f (get_or ys i 0) ≡ v → zs ≡ set ys i v → zs ≡ map f (take (i + 1) xs) ++ drop (i + 1) xs
over f xs ys zs i v l n e fv z =
    z ∙ (ap (set ys i) (sym fv) ∙ map_over_more f xs ys i (get_or ys i 0) l e (get_or_default ys i 0 (get_or ys i 0) (omega arith)))

pub loop-x-preserved : goal.loop-x-preserved
loop-x-preserved c =
    let f = moved c.args.lost c.args.heir in
    let old = c.args.labels.now in
    let l = c.loop-x in
    elim c.if-x-lost.branch [
      | then-x-lost w ↦ over f old l.x-items _ l.x-index _ (omega arith) (omega arith) l.invariant (moved_hit _ _ _ w.if-x-lost.true) w.x-items-is
      | else-x-lost w ↦ over f old l.x-items _ l.x-index _ (omega arith) (omega arith) l.invariant (moved_miss _ _ _ w.if-x-lost.false) w.x-items-is
    ]

pub returns : goal.returns
returns c = search (rules, take_all, drop_all, append-nil)
