use Rattle.std.proofs.Common.{◌≡◌, ℕ, Bool, cond, map, length, is_ok, IfOk, Ok, Result, ap, ◌∙◌, subst, arith}
use Rattle.std.specs.List.{range_with_len}
use Rattle.std.proofs.lemmas.Bool.{le-leb}
use Rattle.chains.specs.declared.fault.ChainFault.{ChainFault}
use Rattle.chains.specs.Build.{answered}
use Rattle.chains.specs.Chain.{Chain}
use Rattle.chains.specs.Thread.{first_of, Threaded}
use Rattle.reasons.specs.Table.{Laid}
use Rattle.reasons.proofs.Writing.{led, laid, chained}
use Rattle.reasons.proofs.table.write_chain.Goals as goal

pub returns : goal.returns
returns c =
    let js = c.args.joins.now in
    let m : ℕ = length js in
    let mid = c.write_steps.new.table in
    let end = c.thread.new.cells in
    let is : c.thread.result ≡ Ok (first_of m) =
    c.thread.ensures.answer ∙ ap (λ (b : Bool). answered b (first_of m)) (le-leb m (length mid) (omega arith)) in
    let path : Chain (map (λ s. s.next) end) (first_of m) (range_with_len 1 m) =
    subst (λ (r : Result ℕ ChainFault). IfOk r (λ h. Chain (map (λ s. s.next) end) h (range_with_len 1 m))) is c.thread.ensures.chain in
    let all : Threaded led m m mid end =
    subst (λ (r : Result ℕ ChainFault). Threaded led m (cond (is_ok r) m 0) mid end) is c.thread.ensures.records in
    let h : Laid js c.args.table.now end = laid js c.args.table.now mid end (omega arith) (omega arith) (omega arith) c.write_steps.ensures all path in
    record { laid = h; chained = chained js c.args.table.now end h }
