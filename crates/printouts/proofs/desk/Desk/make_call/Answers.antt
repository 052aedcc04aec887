use Rattle.std.proofs.Common.{◌≡◌, ◌-◌, length, get_or, take, drop, sym, refl, ◌∙◌, arith, rules}
use Rattle.theory.specs.Sheet.{same, differ}
use Rattle.theory.specs.Calls.{add, tell, must, added, joined, noted, told}
use Rattle.engines.specs.Content.{content}
use Rattle.engines.specs.Faults.{add_reply, same_reply, differ_reply, must_reply}
use Rattle.printouts.specs.Lines.{line_numbers}
use Rattle.printouts.specs.declared.reply.Answer.TheVariants.{Added, Joined, Noted, Told}
use Rattle.printouts.proofs.Doing.{makes_add, pair_of, carried_so, did_so}
use Rattle.printouts.proofs.desk.Desk.make_call.Goals as goal

pub returns-in-p-len1-up-clause-did : goal.returns-in-p-len1-up-clause-did
returns-in-p-len1-up-clause-did g c =
    let l = c.args.line.now in
    let ns = c.numbers.result.now in
    let ec : l.letter ≡ 112 = sym c.letter.ensures ∙ c.in-p-len1-up.is-0 in
    did_so g.K.Keeper.limit (content c.args.self.now.sheet) (content c.add.new.self) l.letter (line_numbers l) (add (get_or ns 0 0) (take (length ns - 1) (drop 1 ns))) (add_reply c.add.result) c.map.result
    (makes_add l.letter (line_numbers l) ns c.requires.takes ec (sym c.numbers.ensures)) c.add.ensures.answer c.add.ensures.after
    (carried_so (λ a. added a.number a.lowest) Added (λ a. refl) c.add.result c.map.result c.map.ensures.cases)

pub returns-in-s-len2-clause-did : goal.returns-in-s-len2-clause-did
returns-in-s-len2-clause-did g c =
    let l = c.args.line.now in
    let ns = c.numbers.result.now in
    let ec : l.letter ≡ 115 = sym c.letter.ensures ∙ c.in-s-len2.is-0 in
    let pair = pair_of l.letter (line_numbers l) ns c.requires.takes (λ e. omega (arith, e, ec)) (sym c.numbers.ensures) in
    did_so g.K.Keeper.limit (content c.args.self.now.sheet) (content c.same.new.self) l.letter (line_numbers l) (tell (same (get_or ns 0 0) (get_or ns 1 0)) (length c.as_mut_slice-table.result.now)) (same_reply c.same.result) c.map-in-s-len2.result
    (ec, pair, search rules) c.same.ensures.answer c.same.ensures.after
    (carried_so (λ j. joined j.entry j.joins) Joined (λ x. refl) c.same.result c.map-in-s-len2.result c.map-in-s-len2.ensures.cases)

pub returns-in-d-len2-clause-did : goal.returns-in-d-len2-clause-did
returns-in-d-len2-clause-did g c =
    let l = c.args.line.now in
    let ns = c.numbers.result.now in
    let ec : l.letter ≡ 100 = sym c.letter.ensures ∙ c.in-d-len2.is-0 in
    let pair = pair_of l.letter (line_numbers l) ns c.requires.takes (λ e. omega (arith, e, ec)) (sym c.numbers.ensures) in
    did_so g.K.Keeper.limit (content c.args.self.now.sheet) (content c.differ.new.self) l.letter (line_numbers l) (tell (differ (get_or ns 0 0) (get_or ns 1 0)) (length c.as_mut_slice-table.result.now)) (differ_reply c.differ.result) c.map-in-d-len2.result
    (ec, pair, search rules) c.differ.ensures.answer c.differ.ensures.after
    (carried_so noted Noted (λ x. refl) c.differ.result c.map-in-d-len2.result c.map-in-d-len2.ensures.cases)

pub returns-in-m-len2-clause-did : goal.returns-in-m-len2-clause-did
returns-in-m-len2-clause-did g c =
    let l = c.args.line.now in
    let ns = c.numbers.result.now in
    let ec : l.letter ≡ 109 = sym c.letter.ensures ∙ c.in-m-len2.is-0 in
    let pair = pair_of l.letter (line_numbers l) ns c.requires.takes (λ e. omega (arith, e, ec)) (sym c.numbers.ensures) in
    did_so g.K.Keeper.limit (content c.args.self.now.sheet) (content c.must.new.self) l.letter (line_numbers l) (must (get_or ns 0 0) (get_or ns 1 0)) (must_reply c.must.result) c.map-in-m-len2.result
    (ec, pair) c.must.ensures.answer c.must.ensures.same
    (carried_so told Told (λ x. refl) c.must.result c.map-in-m-len2.result c.map-in-m-len2.ensures.cases)
