use Rattle.std.proofs.Common.{◌≡◌, ℕ, ◌+◌, ◌<◌, false, Err, Result, List, [], ◌∷◌, ◌++◌, length, vec_items, All, sym, refl, ap, ◌∙◌, subst, inl, inr, arith}
use Rattle.std.proofs.lemmas.List.{length-map, length_push}
use Rattle.std.proofs.lemmas.List.Elements.{All-weaker}
use Rattle.std.proofs.lemmas.Result.{err_from_is_err_and}
use Rattle.theory.specs.Sheet.{Picture, On, Lowest}
use Rattle.theory.specs.Calls.{Answers, after, add}
use Rattle.keepers.specs.Meaning.{Upto}
use Rattle.rows.specs.Row.{cells_of}
use Rattle.indexes.specs.Meaning.{held}
use Rattle.congruence.specs.Drawn.{drawn, sheet}
use Rattle.congruence.specs.Waiting.{Working}
use Rattle.congruence.proofs.Resting.{lowest_told}
use Rattle.congruence.proofs.Tiers.{works_holds}
use Rattle.engines.specs.Content.{pictures_on, entries_on, content}
use Rattle.engines.specs.Checks.{any_absent}
use Rattle.engines.specs.Faults.{fault_of, add_reply}
use Rattle.engines.specs.declared.answer.Added.{Added}
use Rattle.engines.specs.declared.fault.SheetFault.{SheetFault}
use Rattle.engines.specs.declared.fault.SheetFault.TheVariants.{Full}
use Rattle.engines.proofs.Adding.{added_rests, add_missing, add_full, add_added, on_all}
use Rattle.engines.proofs.Alikes.{whole_alike, content_alike}
use Rattle.engines.proofs.open.Open.add.Goals as goal

pub returns-then-any_missing : goal.returns-then-any_missing
returns-then-any_missing g c =
    let s = c.args.self.now in
    record {
      whole = c.requires;
      answer = add_missing g.K.Keeper.limit (content s) c.args.op c.picture_count-n.result c.args.inputs.now c.picture_count-n.ensures c.in-Some.ensures.1 (sym c.if-any_missing.ensures);
      after = refl;
    }

pub returns-then-n-ge1024 : goal.returns-then-n-ge1024
returns-then-n-ge1024 g c =
    let s = c.args.self.now in
    record {
      whole = c.requires;
      answer = add_full g.K.Keeper.limit (content s) c.args.op c.picture_count-n.result c.args.inputs.now c.picture_count-n.ensures c.in-Some.ensures.1 (sym c.if-any_missing.ensures)
          (inl (omega (arith, c.if-n-ge1024.true, c.picture_count-n.ensures)));
      after = refl;
    }

pub draw-requires : goal.draw-requires
draw-requires g c =
    let s = c.args.self.now in
    let ps = vec_items s.congruence.pictures in
    let l = length-map ps drawn in
    let on : All (On (pictures_on s)) (cells_of c.in-Some.row) =
    subst (All (On (pictures_on s))) (sym c.in-Some.ensures.0) (on_all g.K.Keeper.limit (content s) c.args.op c.picture_count-n.result c.args.inputs.now c.picture_count-n.ensures c.in-Some.ensures.1 (sym c.if-any_missing.ensures)) in
    record {
      holds = works_holds g.K.Keeper g.I.Index s.congruence (g.met.K.Keeper.settled s.congruence.keeper) s.journal_room c.requires.working;
      fed = All-weaker (On (pictures_on s)) (Upto (length ps)) (λ p o. (o.0, omega (arith, o.1, l))) (cells_of c.in-Some.row) on;
      few = omega (arith, c.if-n-ge1024.false, c.picture_count-n.ensures, l);
      room = omega (arith, c.if-n-ge1024.false, c.picture_count-n.ensures, l, s.congruence.pictures.ok.0, s.picture_room);
    }

pub returns-in_err-number : goal.returns-in_err-number
returns-in_err-number g c =
    let s = c.args.self.now in
    let cap = g.K.Keeper.limit in
    let es = vec_items s.entries in
    let d = c.in_err-number.ensures.drawn in
    let p = err_from_is_err_and c.from_residual.result c.from_residual.ensures.1 in
    let q : c.from_residual.result ≡ Err Full = p.1 ∙ ap Err (p.2 ∙ ap fault_of d.1) in
    let full = add_full cap (content s) c.args.op c.picture_count-n.result c.args.inputs.now c.picture_count-n.ensures c.in-Some.ensures.1 (sym c.if-any_missing.ensures)
    (inr (omega (arith, d.0, c.requires.working.ready.counted))) in
    record {
      whole = whole_alike g.K.Keeper g.I.Index s.congruence c.draw.new.self d.2 es es refl cap c.requires;
      answer = subst (λ (r : Result Added SheetFault). Answers cap (content s) (add c.args.op c.args.inputs.now) (add_reply r)) (sym q) full;
      after = content_alike g.K.Keeper g.I.Index s.congruence c.draw.new.self d.2 es es refl
          ∙ ap (λ (r : Result Added SheetFault). after (content s) (add c.args.op c.args.inputs.now) (add_reply r)) (sym q);
    }

pub lowest-lowest-requires : goal.lowest-lowest-requires
lowest-lowest-requires g c =
    let d = c.in_ok-number.ensures.drawn in
    let w = c.in_ok-number.ensures.working c.requires.working in
    let x : Picture = record { operation = c.args.op; inputs = cells_of c.in-Some.row } in
    (omega (arith, d.1), omega (arith, d.1, w.ready.counted, c.requires.working.ready.counted, ap length d.2, length_push (pictures_on c.args.self.now) x))

pub returns : goal.returns
returns g c =
    let s = c.args.self.now in
    let P = pictures_on s in
    let E = entries_on s in
    let cap = g.K.Keeper.limit in
    let rs = g.K.Keeper.reps s.congruence.keeper in
    let ps = vec_items s.congruence.pictures in
    let m = held (g.I.Index.leads s.congruence.index) in
    let J = vec_items s.congruence.journal in
    let is = c.args.inputs.now in
    let n : ℕ = c.in_ok-number.number in
    let o = c.draw.new.self in
    let rs' = g.K.Keeper.reps o.keeper in
    let ps' = vec_items o.pictures in
    let m' = held (g.I.Index.leads o.index) in
    let J' = vec_items o.journal in
    let x : Picture = record { operation = c.args.op; inputs = is } in
    let d = c.in_ok-number.ensures.drawn in
    let w = c.requires.working in
    let none : any_absent c.picture_count-n.result is ≡ false = sym c.if-any_missing.ensures in
    let short = c.in-Some.ensures.1 in
    let fed = on_all cap (content s) c.args.op c.picture_count-n.result is c.picture_count-n.ensures short none in
    let few : length P < 1024 = omega (arith, c.if-n-ge1024.false, c.picture_count-n.ensures) in
    let room : length P < cap = omega (arith, d.0, c.requires.room, w.ready.counted) in
    let drawn-so : sheet ps' ≡ P ++ x ∷ [] = d.2 ∙ ap (λ (ys : List ℕ). P ++ record { operation = c.args.op; inputs = ys } ∷ []) c.in-Some.ensures.0 in
    let w' : Working rs' ps' m' J' = c.in_ok-number.ensures.working w in
    let rests' = added_rests cap rs rs' ps ps' x E m m' J J' c.requires drawn-so fed room w' (c.in_ok-number.ensures.idle w c.requires.idle) (c.in_ok-number.ensures.grows w) in
    let en : n ≡ length P + 1 = omega (arith, d.1, w.ready.counted) in
    let on : On (sheet ps') n = (omega (arith, en), omega (arith, en, ap length drawn-so, length_push P x)) in
    let low : Lowest (sheet ps') E n c.lowest-lowest.result = lowest_told rs' (sheet ps') E n c.lowest-lowest.result w'.ready rests'.closes on c.lowest-lowest.ensures.answer in
    let es = vec_items s.entries in
    let same = c.lowest-lowest.ensures.same in
    record {
      whole = whole_alike g.K.Keeper g.I.Index o c.lowest-lowest.new.self same es es refl cap rests';
      answer = add_added cap (content s) c.args.op c.picture_count-n.result is c.picture_count-n.ensures short none few room n c.lowest-lowest.result en
          (subst (λ (Q : List Picture). Lowest Q E n c.lowest-lowest.result) drawn-so low);
      after = content_alike g.K.Keeper g.I.Index o c.lowest-lowest.new.self same es es refl
          ∙ ap (λ (Q : List Picture). record { locked = false; pictures = Q; entries = E }) drawn-so;
    }
