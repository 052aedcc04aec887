use Rattle.std.proofs.Common.{◌≡◌, ℕ, ◌+◌, false, List, [], ◌∷◌, ◌++◌, length, Err, vec_items, sym, refl, ap, ◌∙◌, subst, inl, inr, add-one}
use Rattle.std.proofs.lemmas.List.{map-append}
use Rattle.std.proofs.lemmas.Result.{err_from_is_err_and}
use Rattle.std.proofs.lemmas.Bool.{eqb-true, eqb-false}
use Rattle.theory.specs.Sheet.{Entry, differ, Breaks, First}
use Rattle.theory.specs.Calls.{noted, refused, contradiction, Differs}
use Rattle.keepers.specs.Meaning.{rep}
use Rattle.indexes.specs.Meaning.{held}
use Rattle.congruence.proofs.Journals.{within}
use Rattle.engines.specs.declared.entry.Entry.TheVariants.{Differ}
use Rattle.engines.specs.Content.{pictures_on, entries_on, content, entry_of, taken}
use Rattle.engines.specs.Whole.{Rests}
use Rattle.engines.proofs.Alikes.{works_alike, explained_alike, alike_is, whole_alike, content_alike}
use Rattle.engines.proofs.Deciding.{first_last, impossible, possible, differs_last, passed, passed_on}
use Rattle.engines.proofs.Telling.{differ_proper, differ_closes, differ_derived, differ_unbroken, differ_rests}
use Rattle.engines.proofs.Stopping.{stopped_whole, shown}
use Rattle.engines.proofs.open.Open.differ.Goals as goal

pub returns-in_err-entry : goal.returns-in_err-entry
returns-in_err-entry g c =
    let s = c.args.self.now in
    let p = err_from_is_err_and c.from_residual.result c.from_residual.ensures.1 in
    let h = stopped_whole noted g.K.Keeper.limit (content s) (differ c.args.a c.args.b) c.args.table.now c.picture_count.result c.entry_count.result c.args.a c.args.b c.picture_count.ensures c.entry_count.ensures
    (λ o. o) (λ oa ob. (oa, ob)) c.from_residual.result c.in_err-entry.field-0.0 (p.1 ∙ ap Err p.2) c.in_err-entry.ensures in
    record { whole = c.requires; answer = h.0; after = h.1; table = h.2 }

pub together-requires : goal.together-requires
together-requires g c =
    let s = c.args.self.now in
    let pass = c.in_ok-entry.ensures in
    let on = passed_on g.K.Keeper.limit (content s) (differ c.args.a c.args.b) (length c.args.table.now) c.picture_count.result c.entry_count.result c.args.a c.args.b c.picture_count.ensures c.entry_count.ensures (λ o. o) (λ oa ob. (oa, ob)) pass.1 in
    let within-them = within (g.K.Keeper.reps s.congruence.keeper) (pictures_on s) c.requires.working.ready in
    (within-them c.args.a on.0, within-them c.args.b on.1)

pub explain-steps-requires : goal.explain-steps-requires
explain-steps-requires g c =
    record {
      working = works_alike g.K.Keeper g.I.Index c.args.self.now.congruence c.together.new.self c.together.ensures.same c.requires.working;
      cells = c.in_ok-entry.ensures.1.enough;
    }

pub returns-then-together : goal.returns-then-together
returns-then-together g c =
    let s = c.args.self.now in
    let P = pictures_on s in
    let E = entries_on s in
    let a = c.args.a in
    let b = c.args.b in
    let k = c.in_ok-entry.entry in
    let rs = g.K.Keeper.reps s.congruence.keeper in
    let J = vec_items s.congruence.journal in
    let ps = vec_items s.congruence.pictures in
    let E' = E ++ differ a b ∷ [] in
    let cap = g.K.Keeper.limit in
    let m = held (g.I.Index.leads s.congruence.index) in
    let n = c.explain-steps.result in
    let t = c.args.table.now in
    let t' = c.explain-steps.new.table in
    let pass = c.in_ok-entry.ensures in
    let on = passed_on cap (content s) (differ a b) (length t) c.picture_count.result c.entry_count.result a b c.picture_count.ensures c.entry_count.ensures (λ o. o) (λ oa ob. (oa, ob)) pass.1 in
    let one : rep rs a ≡ rep rs b = eqb-true _ _ (sym c.together.ensures.answer ∙ c.if-together.true) in
    let same = c.together.ensures.same in
    let ex = explained_alike g.K.Keeper g.I.Index s.congruence c.together.new.self same a b n t t' c.explain-steps.ensures.explained in
    let written = ex E' (differ_derived cap rs ps E m J a b c.requires on.0 on.1, c.requires.working.books.tracks.told a b on.0 on.1 one) in
    let closes = differ_closes cap rs ps E m J a b c.requires on.0 on.1 in
    let ek : k ≡ length E + 1 = pass.0 ∙ ap (λ (i : ℕ). i + 1) c.entry_count.ensures in
    let broken : First (Breaks P E') k E' =
    subst (λ (i : ℕ). First (Breaks P E') i E') (sym (ek ∙ add-one (length E)))
    (first_last (Breaks P E') E (differ a b) (differ_unbroken cap rs ps E m J a b c.requires on.0 on.1) ((closes a b on.0 on.1).0 one)) in
    let which : Differs k E' a b = subst (λ (i : ℕ). Differs i E' a b) (sym (ek ∙ add-one (length E))) (differs_last E a b) in
    let proper = differ_proper cap rs ps E m J a b c.requires on.0 on.1 in
    let o = c.explain-steps.new.self in
    let es = vec_items s.entries in
    let same-entries = ap vec_items c.explain-steps.ensures.entries in
    let alike = alike_is g.K.Keeper s.congruence c.together.new.self o.congruence same c.explain-steps.ensures.congruence in
    record {
      whole = whole_alike g.K.Keeper g.I.Index s.congruence o.congruence alike es (vec_items o.entries) same-entries cap c.requires;
      answer = passed cap (content s) (differ a b) (length t) c.picture_count.result c.entry_count.result a b c.picture_count.ensures c.entry_count.ensures (λ o. o) (λ oa ob. (oa, ob)) (refused (contradiction k n)) pass.1
          (inl (impossible (content s) (differ a b) k proper broken, (k, n, a, b, broken, which, shown P E' a b n t t' written, refl)));
      after = content_alike g.K.Keeper g.I.Index s.congruence o.congruence alike es (vec_items o.entries) same-entries;
      table = (a, b, which, written);
    }

pub returns : goal.returns
returns g c =
    let s = c.args.self.now in
    let P = pictures_on s in
    let E = entries_on s in
    let a = c.args.a in
    let b = c.args.b in
    let rs = g.K.Keeper.reps s.congruence.keeper in
    let J = vec_items s.congruence.journal in
    let ps = vec_items s.congruence.pictures in
    let cap = g.K.Keeper.limit in
    let m = held (g.I.Index.leads s.congruence.index) in
    let pass = c.in_ok-entry.ensures in
    let on = passed_on cap (content s) (differ a b) (length c.args.table.now) c.picture_count.result c.entry_count.result a b c.picture_count.ensures c.entry_count.ensures (λ o. o) (λ oa ob. (oa, ob)) pass.1 in
    let ne = eqb-false _ _ (sym c.together.ensures.answer ∙ c.if-together.false) in
    let w = differ_rests cap rs ps E m J a b c.requires on.0 on.1 ne in
    let proper = differ_proper cap rs ps E m J a b c.requires on.0 on.1 in
    let es = vec_items s.entries in
    let fs = es ++ Differ a b ∷ [] in
    let o = c.push_reserved.new.self in
    let pushed : taken fs ≡ E ++ differ a b ∷ [] = map-append entry_of es (Differ a b ∷ []) in
    let same = c.together.ensures.same in
    let w' : Rests cap rs ps (taken fs) m J = subst (λ (F : List Entry). Rests cap rs ps F m J) (sym pushed) w in
    record {
      whole = whole_alike g.K.Keeper g.I.Index s.congruence c.together.new.self same fs (vec_items o) c.push_reserved.ensures.items cap w';
      answer = passed cap (content s) (differ a b) (length c.args.table.now) c.picture_count.result c.entry_count.result a b c.picture_count.ensures c.entry_count.ensures (λ o. o) (λ oa ob. (oa, ob)) (noted c.in_ok-entry.entry) pass.1
          (inr (possible (content s) (differ a b) proper w.unbroken, ap noted (pass.0 ∙ ap (λ (i : ℕ). i + 1) c.entry_count.ensures)));
      after = content_alike g.K.Keeper g.I.Index s.congruence c.together.new.self same fs (vec_items o) c.push_reserved.ensures.items
          ∙ ap (λ (F : List Entry). record { locked = false; pictures = P; entries = F }) pushed;
      table = refl;
    }
