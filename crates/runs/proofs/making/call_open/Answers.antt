use Rattle.std.proofs.Common.{◌-◌, length, take, sym, refl, ap, ◌∙◌}
use Rattle.theory.specs.Sheet.{same, differ}
use Rattle.theory.specs.Calls.{add, tell, must, why, added, explained, joined, noted, told}
use Rattle.engines.specs.Content.{content}
use Rattle.engines.specs.Faults.{add_reply, same_reply, differ_reply, must_reply, why_reply}
use Rattle.runs.specs.declared.answer.Answer.TheVariants.{Added, Explained, Joined, Noted, Told}
use Rattle.runs.specs.Calls.{call_of}
use Rattle.runs.proofs.Logs.{goes_on, cells_lent, mapped}
use Rattle.runs.proofs.making.call_open.Goals as goal

pub returns-in-Add : goal.returns-in-Add
returns-in-Add g c =
    let n = length c.args.table.now in
    record {
      whole = c.add.ensures.whole;
      goes = goes_on g.K.Keeper.limit (content c.args.sheet) (content c.add.new.self) (call_of n c.args.call.now) (add c.in-Add.op c.as_slice.result.now) (add_reply c.add.result) c.map-answer.result
          (ap (add c.in-Add.op) c.as_slice.ensures.value ∙ sym (ap (call_of n) c.in-Add.is)) (mapped (λ a. added a.number a.lowest) Added (λ x. refl) c.add.result c.map-answer.result c.map-answer.ensures.cases) refl c.add.ensures.answer c.add.ensures.after;
    }

pub returns-in-Same : goal.returns-in-Same
returns-in-Same g c =
    let n = length c.args.table.now in
    let lent = cells_lent c.args.table.now c.min-cells.result c.in-Same.cells c.min-cells.ensures in
    record {
      whole = c.same.ensures.whole;
      goes = goes_on g.K.Keeper.limit (content c.args.sheet) (content c.same.new.self) (call_of n c.args.call.now) (tell (same c.in-Same.a c.in-Same.b) (length (take (c.min-cells.result - 0) c.args.table.now))) (same_reply c.same.result) c.map-answer-in-Same.result
          (ap (tell (same c.in-Same.a c.in-Same.b)) lent ∙ sym (ap (call_of n) c.in-Same.is)) (mapped (λ j. joined j.entry j.joins) Joined (λ x. refl) c.same.result c.map-answer-in-Same.result c.map-answer-in-Same.ensures.cases) refl c.same.ensures.answer c.same.ensures.after;
    }

pub returns-in-Differ : goal.returns-in-Differ
returns-in-Differ g c =
    let n = length c.args.table.now in
    let lent = cells_lent c.args.table.now c.min-cells-in-Differ.result c.in-Differ.cells c.min-cells-in-Differ.ensures in
    record {
      whole = c.differ.ensures.whole;
      goes = goes_on g.K.Keeper.limit (content c.args.sheet) (content c.differ.new.self) (call_of n c.args.call.now) (tell (differ c.in-Differ.a c.in-Differ.b) (length (take (c.min-cells-in-Differ.result - 0) c.args.table.now))) (differ_reply c.differ.result) c.map-answer-in-Differ.result
          (ap (tell (differ c.in-Differ.a c.in-Differ.b)) lent ∙ sym (ap (call_of n) c.in-Differ.is)) (mapped noted Noted (λ x. refl) c.differ.result c.map-answer-in-Differ.result c.map-answer-in-Differ.ensures.cases) refl c.differ.ensures.answer c.differ.ensures.after;
    }

pub returns-in-Must : goal.returns-in-Must
returns-in-Must g c =
    let n = length c.args.table.now in
    record {
      whole = c.must.ensures.whole;
      goes = goes_on g.K.Keeper.limit (content c.args.sheet) (content c.must.new.self) (call_of n c.args.call.now) (must c.in-Must.a c.in-Must.b) (must_reply c.must.result) c.map-answer-in-Must.result
          (sym (ap (call_of n) c.in-Must.is)) (mapped told Told (λ x. refl) c.must.result c.map-answer-in-Must.result c.map-answer-in-Must.ensures.cases) tt c.must.ensures.answer c.must.ensures.same;
    }

pub returns-in-Why : goal.returns-in-Why
returns-in-Why g c =
    let n = length c.args.table.now in
    let lent = cells_lent c.args.table.now c.min-cells-in-Why.result c.in-Why.cells c.min-cells-in-Why.ensures in
    record {
      whole = c.why.ensures.whole;
      goes = goes_on g.K.Keeper.limit (content c.args.sheet) (content c.why.new.self) (call_of n c.args.call.now) (why c.in-Why.a c.in-Why.b (length (take (c.min-cells-in-Why.result - 0) c.args.table.now))) (why_reply c.why.result) c.map-answer-in-Why.result
          (ap (why c.in-Why.a c.in-Why.b) lent ∙ sym (ap (call_of n) c.in-Why.is)) (mapped explained Explained (λ x. refl) c.why.result c.map-answer-in-Why.result c.map-answer-in-Why.ensures.cases) tt c.why.ensures.answer c.why.ensures.same;
    }
