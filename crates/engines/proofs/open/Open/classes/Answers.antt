use Rattle.std.proofs.Common.{◌≡◌, vec_items, subst, sym, ◌∙◌, ap, length, arith, ◌-◌}
use Rattle.theory.specs.Sheet.{Classes}
use Rattle.congruence.proofs.Resting.{classes_told}
use Rattle.engines.specs.Content.{pictures_on, entries_on}
use Rattle.engines.proofs.Alikes.{counted_told}
use Rattle.engines.proofs.open.Open.classes.Goals as goal

pub returns : goal.returns
returns g c =
    let s = c.args.self.now in
    let w = c.requires in
    let rs = g.K.Keeper.reps s.congruence.keeper in
    let P = pictures_on s in
    let J = vec_items s.congruence.journal in
    let e : length P - length J ≡ c.picture_count.result - length c.journal.result.now = omega (arith, c.picture_count.ensures, ap length c.journal.ensures) in
    record {
      answer = subst (Classes P (entries_on s)) e (classes_told rs P (entries_on s) J w.working.books w.closes);
      counted = sym e ∙ sym (counted_told rs P J (g.met.K.Keeper.settled s.congruence.keeper) w.working.ready.counted w.working.books);
    }
