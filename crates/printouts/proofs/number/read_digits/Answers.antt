use Rattle.std.proofs.Common.{inl, inr, arith, rules}
use Rattle.printouts.proofs.Digits.{one_more, stopped, bare_from, took_lens}
use Rattle.printouts.proofs.number.read_digits.Goals as goal
use Rattle.printouts.proofs.number.read_digits.Goals.{else-loop-test, then-loop-test+in_default, then-loop-test+in_default-2, then-loop-test+in_default-3}

pub loop-preserved : goal.loop-preserved
loop-preserved c =
    let i = c.loop.invariant in
    let m = one_more c.args.text.now c.loop.rest.now c.loop.counter c.loop.value i.1 i.2 (search rules) i.3 (search rules) i.4 i.5 in
    (i.0, m.0, m.1, m.2, omega (arith, m.3, c.from.ensures), omega (arith, m.4, c.from.ensures))

pub returns : goal.returns
returns c =
    let i = c.loop.invariant in
    let t = stopped c.args.text.now c.loop.rest.now c.args.most c.loop.counter c.loop.value i.1 i.2 i.3 i.4 c.requires (search rules)
    (elim c.loop-test.branch [
      | else-loop-test w ↦ inl (search rules)
      | then-loop-test+in_default w ↦ inr (bare_from c.loop.rest.now (λ s d. search rules))
      | then-loop-test+in_default-2 w ↦ inr (bare_from c.loop.rest.now (λ s d. search rules))
      | then-loop-test+in_default-3 w ↦ inr (bare_from c.loop.rest.now (λ s d. search rules))
    ]) in
    record { reads = t; lens = took_lens c.args.text.now c.loop.value c.loop.rest.now t }
