use Rattle.std.proofs.Common.{false, sym, refl, arith}
use Rattle.std.proofs.lemmas.Bool.{both_ways}
use Rattle.theory.specs.Sheet.{On}
use Rattle.engines.specs.Content.{pictures_on, entries_on}
use Rattle.engines.proofs.Numbers.{present, not_present}
use Rattle.engines.proofs.Values.{value_decides}
use Rattle.engines.proofs.open.Open.is_value.Goals as goal

pub returns-then-missing : goal.returns-then-missing
returns-then-missing g c =
    let s = c.args.self.now in
    let en = c.picture_count.ensures in
    let none = not_present c.picture_count.result c.args.x (sym c.if-missing.ensures) in
    record {
      whole = c.requires;
      answer = ((λ e. absurd (both_ways false refl e)), λ v. absurd (none (v.0.0.0, omega (arith, v.0.0.1, en))));
      same = refl;
    }

pub returns : goal.returns
returns g c =
    let s = c.args.self.now in
    let en = c.picture_count.ensures in
    let here = present c.picture_count.result c.args.x (sym c.if-missing.ensures) in
    let on : On (pictures_on s) c.args.x = (here.0, omega (arith, here.1, en)) in
    record {
      whole = c.lowest_of.ensures.whole;
      answer = value_decides (pictures_on s) (entries_on s) c.args.x c.lowest_of.result on c.lowest_of.ensures.answer;
      same = c.lowest_of.ensures.same;
    }
