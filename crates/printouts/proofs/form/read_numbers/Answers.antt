use Rattle.std.proofs.Common.{◌≡◌, is_ok, ◌-◌, ◌<◌, ◌∷◌, [], ◌++◌, length, take, drop, sym, refl, ap, ◌∙◌, arith, rules}
use Rattle.std.proofs.lemmas.List.{length_push}
use Rattle.std.proofs.lemmas.Result.{err_from_is_err_and}
use Rattle.rows.specs.Row.{cells_of}
use Rattle.printouts.proofs.Sofar.{split_first, sofar_narrow, sofar_wide, ends_gap, ends_space, ends_wide, ends_well, pushed, moved}
use Rattle.printouts.proofs.form.read_numbers.Goals as goal
use Rattle.printouts.proofs.form.read_numbers.Goals.{in-Ok, in-Err, else-loop-rest-test, then-loop-rest-test+then-rest-lt1, then-loop-rest-test+else-rest-lt1+in_default-1, then-not-is_empty-via-then-not-is_empty, then-not-is_empty-via-else-not-is_empty+then-len-least}

pub returns-in_default : goal.returns-in_default
returns-in_default c =
    let r = c.loop-rest in
    let more = take (length r.rest.now - 1) (drop 1 r.rest.now) in
    ends_space c.args.letter _ _ c.requires.0 c.args.text.now r.rest.now (cells_of r.numbers) r.fits r.invariant.0 more (split_first r.rest.now 32 (search rules) (search rules)) (search rules) c.in_default.ensures.reads

pub loop-rest-preserved : goal.loop-rest-preserved
loop-rest-preserved c =
    let r = c.loop-rest in
    let ns = cells_of r.numbers in
    let more = take (length r.rest.now - 1) (drop 1 r.rest.now) in
    let e : r.rest.now ≡ 32 ∷ take (length r.rest.now - 1) (drop 1 r.rest.now) = split_first r.rest.now 32 (search rules) (search rules) in
    let t = c.in-Some.ensures.reads in
    let nx = c.in-Some.next.now in
    let v = c.in-Some.value in
    let few : length (cells_of c.loop-rest.numbers) < c.args.most = search rules in
    let p = pushed (is_ok c.push.result) ns (cells_of c.push.new.self) c.match-try_from.number 9 c.push.ensures.answer (omega (arith, few, c.requires.1)) c.push.ensures.after in (
      elim c.match-try_from.branch [
        | in-Ok w ↦ moved (sofar_narrow c.args.text.now r.rest.now more nx v ns r.fits r.invariant.0 e t (omega (arith, w.in-Ok.ensures.0))) (p ∙ ap (λ n. ns ++ (n ∷ [])) (w.number-is ∙ w.in-Ok.ensures.1)) w.fits-is
        | in-Err w ↦ moved (sofar_wide c.args.text.now r.rest.now more nx v 0 ns r.fits r.invariant.0 e t (omega (arith, w.in-Err.ensures))) (p ∙ ap (λ n. ns ++ (n ∷ [])) w.number-is) (w.fits-is ∙ w.and-fits.ensures)
      ],
      omega (arith, ap length p, length_push ns c.match-try_from.number, few),
      search rules,
    )

pub returns-then-not-is_empty : goal.returns-then-not-is_empty
returns-then-not-is_empty c =
    let r = c.loop-rest in
    ends_gap c.args.letter _ _ c.requires.0 c.args.text.now r.rest.now (cells_of r.numbers) r.fits r.invariant.0 r.invariant.1
    (λ z. elim c.then-not-is_empty.branch [ then-not-is_empty-via-then-not-is_empty w ↦ search rules | then-not-is_empty-via-else-not-is_empty+then-len-least w ↦ search rules ])
    (λ z y. elim c.loop-rest-test.branch [ else-loop-rest-test w ↦ search rules | then-loop-rest-test+then-rest-lt1 w ↦ search rules | then-loop-rest-test+else-rest-lt1+in_default-1 w ↦ search rules ])

pub returns-in_err-fits : goal.returns-in_err-fits
returns-in_err-fits c =
    let b = c.requires in
    let r = c.loop-rest in
    let f = c.in_err-fits.field-0.0 in
    let p = err_from_is_err_and c.from_residual.result c.from_residual.ensures.1 in
    let m = ends_wide c.args.letter _ _ b.0 c.args.text.now r.rest.now (cells_of r.numbers) f (moved r.invariant.0 refl (sym c.in_err-fits.was)) (search rules) (search rules) r.invariant.1 in
    rw (p.1, p.2) m

pub returns : goal.returns
returns c =
    let b = c.requires in
    let r = c.loop-rest in
    (refl, ends_well c.args.letter _ _ b.0 c.args.text.now r.rest.now (cells_of r.numbers) c.in_ok-fits.field-0 (moved r.invariant.0 refl (sym c.in_ok-fits.was)) (search rules) (search rules) r.invariant.1)
