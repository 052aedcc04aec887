use Rattle.std.proofs.Common.{sym, refl, inl, arith}
use Rattle.theory.specs.Sheet.{On}
use Rattle.engines.specs.Content.{content, pictures_on}
use Rattle.engines.proofs.Numbers.{present, not_present}
use Rattle.engines.proofs.Values.{value_answers}
use Rattle.engines.proofs.open.Open.value_of.Goals as goal

pub returns-then-missing : goal.returns-then-missing
returns-then-missing g c =
    let s = c.args.self.now in
    let en = c.picture_count.ensures in
    let none = not_present c.picture_count.result c.args.p (sym c.if-missing.ensures) in
    record {
      whole = c.requires;
      answer = inl ((λ o. none (o.0, omega (arith, o.1, en))), refl);
      same = refl;
    }

pub returns : goal.returns
returns g c =
    let s = c.args.self.now in
    let en = c.picture_count.ensures in
    let here = present c.picture_count.result c.args.p (sym c.if-missing.ensures) in
    let on : On (pictures_on s) c.args.p = (here.0, omega (arith, here.1, en)) in
    record {
      whole = c.lowest_of.ensures.whole;
      answer = value_answers g.K.Keeper.limit (content s) c.args.p c.lowest_of.result on c.lowest_of.ensures.answer;
      same = c.lowest_of.ensures.same;
    }
