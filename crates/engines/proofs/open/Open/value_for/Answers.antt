use Rattle.std.proofs.Common.{All, ◌∙◌}
use Rattle.std.proofs.lemmas.Bool.{both_ways}
use Rattle.rows.specs.Row.{cells_of}
use Rattle.engines.specs.Content.{content, pictures_on, entries_on}
use Rattle.engines.specs.Values.{Value}
use Rattle.engines.proofs.Values.{apply_answers, no_value_applies, on_values, found_applies, none_found_applies}
use Rattle.engines.proofs.open.Open.value_for.Goals as goal

pub returns-then-not-are_values : goal.returns-then-not-are_values
returns-then-not-are_values g c =
    let s = c.args.self.now in
    let xs = c.args.numbers.now in
    record {
      whole = c.are_values.ensures.whole;
      answer = apply_answers g.K.Keeper.limit (content s) c.args.op xs 0 c.in-Some.ensures.1
          (no_value_applies (pictures_on s) (entries_on s) c.args.op xs (λ a. both_ways c.are_values.result c.if-not-are_values.true (c.are_values.ensures.answer.1 a)));
      same = c.are_values.ensures.same;
    }

pub bearer-requires : goal.bearer-requires
bearer-requires g c =
    let s = c.args.self.now in
    let xs = c.args.numbers.now in
    let a : All (Value (pictures_on s) (entries_on s)) xs = c.are_values.ensures.answer.0 c.if-not-are_values.false in
    record {
      whole = c.are_values.ensures.whole;
      on = on_values (content s) (content c.are_values.new.self) xs (cells_of c.in-Some.row) c.are_values.ensures.same c.in-Some.ensures.0 a;
    }

pub returns-in-Some-bearer : goal.returns-in-Some-bearer
returns-in-Some-bearer g c =
    let s = c.args.self.now in
    let t = c.are_values.new.self in
    let u = c.bearer.new.self in
    let xs = c.args.numbers.now in
    let a : All (Value (pictures_on s) (entries_on s)) xs = c.are_values.ensures.answer.0 c.if-not-are_values.false in
    record {
      whole = c.lowest_of.ensures.whole;
      answer = apply_answers g.K.Keeper.limit (content s) c.args.op xs c.lowest_of.result c.in-Some.ensures.1
          (found_applies (content s) (content t) (content u) c.args.op xs (cells_of c.in-Some.row) c.in-Some-bearer.p c.lowest_of.result c.are_values.ensures.same c.bearer.ensures.same c.in-Some.ensures.0 a
          c.in-Some-bearer.ensures.answer c.lowest_of.ensures.answer);
      same = c.lowest_of.ensures.same ∙ (c.bearer.ensures.same ∙ c.are_values.ensures.same);
    }

pub returns-in-None : goal.returns-in-None
returns-in-None g c =
    let s = c.args.self.now in
    let t = c.are_values.new.self in
    let xs = c.args.numbers.now in
    record {
      whole = c.bearer.ensures.whole;
      answer = apply_answers g.K.Keeper.limit (content s) c.args.op xs 0 c.in-Some.ensures.1
          (none_found_applies (content s) (content t) c.args.op xs (cells_of c.in-Some.row) c.are_values.ensures.same c.in-Some.ensures.0 c.in-None.ensures.answer);
      same = c.bearer.ensures.same ∙ c.are_values.ensures.same;
    }
