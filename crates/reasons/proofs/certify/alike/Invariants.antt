use Rattle.std.proofs.Common.{◌≡◌, length, take}
use Rattle.std.specs.List.{AllZip}
use Rattle.reasons.specs.Marks.{Alike}
use Rattle.reasons.proofs.certify.alike.Given as goal

abbrev pub invariant-loop-x : goal.invariant-loop-x
invariant-loop-x g l =
    let rs = g.S.Keeper.reps l.initial.scratch in
    (g.S.Keeper.reps l.scratch ≡ rs) × AllZip (Alike rs) (take (length l.yielded) l.left) (take (length l.yielded) l.right)
