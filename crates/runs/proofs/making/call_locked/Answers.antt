use Rattle.std.proofs.Common.{◌-◌, length, take, sym, refl, ap, ◌∙◌}
use Rattle.theory.specs.Calls.{must, why, value, apply, explained, told, valued}
use Rattle.engines.specs.Locked.{locked_content}
use Rattle.engines.specs.Faults.{must_reply, why_reply, value_reply}
use Rattle.runs.specs.declared.answer.Answer.TheVariants.{Explained, Told, Valued}
use Rattle.runs.specs.Calls.{call_of}
use Rattle.runs.proofs.Logs.{goes_on, cells_lent, mapped}
use Rattle.runs.proofs.making.call_locked.Goals as goal

pub returns-in-Must : goal.returns-in-Must
returns-in-Must g c =
    let n = length c.args.table.now in
    record {
      whole = c.must.ensures.whole;
      goes = goes_on g.K.Keeper.limit (locked_content c.args.sheet) (locked_content c.must.new.self) (call_of n c.args.call.now) (must c.in-Must.a c.in-Must.b) (must_reply c.must.result) c.map-answer.result
          (sym (ap (call_of n) c.in-Must.is)) (mapped told Told (λ x. refl) c.must.result c.map-answer.result c.map-answer.ensures.cases) tt c.must.ensures.answer c.must.ensures.same;
    }

pub returns-in-Why : goal.returns-in-Why
returns-in-Why g c =
    let n = length c.args.table.now in
    let lent = cells_lent c.args.table.now c.min-cells.result c.in-Why.cells c.min-cells.ensures in
    record {
      whole = c.why.ensures.whole;
      goes = goes_on g.K.Keeper.limit (locked_content c.args.sheet) (locked_content c.why.new.self) (call_of n c.args.call.now) (why c.in-Why.a c.in-Why.b (length (take (c.min-cells.result - 0) c.args.table.now))) (why_reply c.why.result) c.map-answer-in-Why.result
          (ap (why c.in-Why.a c.in-Why.b) lent ∙ sym (ap (call_of n) c.in-Why.is)) (mapped explained Explained (λ x. refl) c.why.result c.map-answer-in-Why.result c.map-answer-in-Why.ensures.cases) tt c.why.ensures.answer c.why.ensures.same;
    }

pub returns-in-Value : goal.returns-in-Value
returns-in-Value g c =
    let n = length c.args.table.now in
    record {
      whole = c.value.ensures.whole;
      goes = goes_on g.K.Keeper.limit (locked_content c.args.sheet) (locked_content c.value.new.self) (call_of n c.args.call.now) (value c.in-Value.p) (value_reply c.value.result) c.map-answer-in-Value.result
          (sym (ap (call_of n) c.in-Value.is)) (mapped valued Valued (λ x. refl) c.value.result c.map-answer-in-Value.result c.map-answer-in-Value.ensures.cases) refl c.value.ensures.answer c.value.ensures.same;
    }

pub returns-in-Apply : goal.returns-in-Apply
returns-in-Apply g c =
    let n = length c.args.table.now in
    record {
      whole = c.apply.ensures.whole;
      goes = goes_on g.K.Keeper.limit (locked_content c.args.sheet) (locked_content c.apply.new.self) (call_of n c.args.call.now) (apply c.in-Apply.op c.as_slice.result.now) (value_reply c.apply.result) c.map-answer-in-Apply.result
          (ap (apply c.in-Apply.op) c.as_slice.ensures.value ∙ sym (ap (call_of n) c.in-Apply.is)) (mapped valued Valued (λ x. refl) c.apply.result c.map-answer-in-Apply.result c.map-answer-in-Apply.ensures.cases) refl c.apply.ensures.answer c.apply.ensures.same;
    }
