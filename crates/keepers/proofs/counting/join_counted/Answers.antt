use Rattle.std.proofs.Common.{ℕ, ◌+◌, ap, ◌∙◌}
use Rattle.keepers.specs.Meaning.{class_count}
use Rattle.keepers.specs.Drops.{lowers}
use Rattle.keepers.proofs.counting.join_counted.Goals as goal

pub returns : goal.returns
returns g c =
    let k = g.K.Keeper in
    let rs = k.reps c.args.k.now in
    let rs' = k.reps c.join.new.self in
    let o = c.in_ok-join.field-0 in
    let d = c.in_ok-join.ensures in (
      o,
      d,
      c.number.ensures,
      ap (λ (j : ℕ). class_count rs' + j) c.number.ensures
          ∙ lowers c.args.p c.args.q rs rs' o (g.met.K.Keeper.settled c.args.k.now) d.0 d.1 d.2,
    )
