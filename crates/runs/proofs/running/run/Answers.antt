use Rattle.std.proofs.Common.{ℕ, length, Some, None, vec_items, Option, subst, arith}
use Rattle.engines.specs.Content.{content}
use Rattle.runs.specs.declared.call.Call.{Call as Asked}
use Rattle.runs.specs.Calls.{Reply, call_of, log_of}
use Rattle.runs.specs.States.{state_content, GoesOn}
use Rattle.runs.specs.Laws.{Answered}
use Rattle.runs.proofs.Logs.{runs_first, runs_more, runs_all, runs_until, lawful}
use Rattle.runs.proofs.running.run.Goals as goal

pub loop-call-init : goal.loop-call-init
loop-call-init g c =
    let v = c.in_ok-answers.answers in (
      c.in_ok-new.ensures.whole,
      runs_first g.K.Keeper.limit (length c.args.table.now) c.args.calls.now (vec_items v) (content c.in_ok-new.field-0) c.in_ok-answers.ensures.items c.in_ok-new.ensures.empty,
      c.in_ok-answers.ensures.capacity,
    )

pub returns-in-None : goal.returns-in-None
returns-in-None g c =
    let cap = g.K.Keeper.limit in
    let n = length c.args.table.now in
    let cs = c.args.calls.now in
    let rs = vec_items c.loop-call.answers in
    let i = c.loop-call.call-index in
    let s = state_content c.loop-call.state in
    let t = state_content c.make_call-next.result.0 in
    let x : Asked = c.call-item.result in
    let on : GoesOn cap s (call_of n x) None t =
    subst (λ (k : ℕ). GoesOn cap s (call_of k x) None t) c.loop-call.auto.table (subst (λ (r : Option Reply). GoesOn cap s (call_of (length c.loop-call.table) x) r t) c.in-None.is c.make_call-next.ensures.goes) in
    let a : Answered cap n cs rs = runs_until cap n cs rs i s t x c.loop-call.invariant.1 c.loop-call-test.true c.call-item.is on in
    record { answered = a; law = lawful cap (log_of n cs rs) a.ran }

pub loop-call-preserved : goal.loop-call-preserved
loop-call-preserved g c =
    let cap = g.K.Keeper.limit in
    let n = length c.args.table.now in
    let cs = c.args.calls.now in
    let rs = vec_items c.loop-call.answers in
    let i = c.loop-call.call-index in
    let s = state_content c.loop-call.state in
    let t = state_content c.make_call-next.result.0 in
    let x : Asked = c.call-item.result in
    let a : Reply = c.in-Some.answer in
    let on : GoesOn cap s (call_of n x) (Some a) t =
    subst (λ (k : ℕ). GoesOn cap s (call_of k x) (Some a) t) c.loop-call.auto.table (subst (λ (r : Option Reply). GoesOn cap s (call_of (length c.loop-call.table) x) r t) c.in-Some.is c.make_call-next.ensures.goes) in (
      c.make_call-next.ensures.whole,
      runs_more cap n cs rs (vec_items c.push_reserved.new.self) i s t x a c.loop-call.invariant.1 c.loop-call-test.true c.call-item.is c.push_reserved.ensures.items on,
      omega (arith, c.push_reserved.ensures.capacity, c.loop-call.invariant.2),
    )

pub returns : goal.returns
returns g c =
    let a : Answered g.K.Keeper.limit (length c.args.table.now) c.args.calls.now (vec_items c.loop-call.answers) =
    runs_all g.K.Keeper.limit (length c.args.table.now) c.args.calls.now (vec_items c.loop-call.answers) c.loop-call.call-index (state_content c.loop-call.state) c.loop-call.invariant.1 (omega arith) (omega arith) in
    record { answered = a; law = lawful g.K.Keeper.limit (log_of (length c.args.table.now) c.args.calls.now (vec_items c.loop-call.answers)) a.ran }
