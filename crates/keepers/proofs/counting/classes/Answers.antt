use Rattle.std.proofs.Common.{◌≡◌, ℕ, zero, suc, ◌+◌, ◌-◌, ◌≤◌, List, length, min, cond, ◌==◌, sym, ap, arith}
use Rattle.keepers.specs.Meaning.{rep, ends}
use Rattle.keepers.proofs.counting.classes.Goals as goal

-- the number among one picture more
counted : (rs : List ℕ) (p : ℕ) → 1 ≤ p → ends rs p ≡ ends rs (p - 1) + cond (rep rs p == p) 1 0
counted rs zero l = absurd (omega arith)
counted rs (suc q) l =
    let e : suc q - 1 ≡ q = omega arith in
    ap (λ (m : ℕ). ends rs m + cond (rep rs (suc q) == suc q) 1 0) (sym e)

pub returns-in-Ok-clause-answer : goal.returns-in-Ok-clause-answer
returns-in-Ok-clause-answer g c =
    let rs = g.K.Keeper.reps c.args.k.now in
    let p : ℕ = c.loop-p.p in
    let last : min (length rs) 65535 ≡ p = grind arith in
    let more = counted rs p c.loop-p.auto.p in
    rw last (rw more (grind arith))
