use Rattle.std.proofs.Common.{◌≡◌, ℕ, ◌+◌, ◌-◌, false, List, [], ◌∷◌, ◌++◌, length, get_or, take, Some, Err, vec_items, All, sym, refl, ap, ◌∙◌, ap₂, subst, subst₂, inl, inr, add-one, arith, Result, IfOk}
use Rattle.std.proofs.lemmas.List.Elements.{All-push}
use Rattle.std.proofs.lemmas.List.{length-append, length-map, map-append}
use Rattle.std.proofs.lemmas.Result.{err_from_is_err_and}
use Rattle.theory.specs.Sheet.{Picture, Entry, Breaks, First}
use Rattle.theory.specs.Sheet.{same as same-entry}
use Rattle.theory.specs.Reasons.{Derivation}
use Rattle.theory.specs.Calls.{Content, Answer, joined, refused, contradiction, Differs}
use Rattle.keepers.specs.Meaning.{class_count}
use Rattle.indexes.specs.Meaning.{held}
use Rattle.congruence.specs.declared.congruence.Congruence.{Congruence}
use Rattle.congruence.specs.declared.journal.Join.{Join}
use Rattle.congruence.specs.declared.journal.Cause.TheVariants.{Entry as By-entry}
use Rattle.congruence.specs.Drawn.{drawn, sheet, reasons}
use Rattle.congruence.specs.Working.{Fresh, Grows, Any}
use Rattle.congruence.proofs.Replays.{derived_fresh}
use Rattle.congruence.proofs.Tiers.{works_holds}
use Rattle.reasons.specs.Table.{Explained}
use Rattle.engines.specs.declared.answer.Joined.{Joined}
use Rattle.engines.specs.declared.fault.SheetFault.{SheetFault}
use Rattle.engines.specs.declared.entry.Entry.{Entry as Told}
use Rattle.engines.specs.declared.entry.Entry.TheVariants.{Same}
use Rattle.engines.specs.Content.{pictures_on, entries_on, content, entry_of, taken}
use Rattle.engines.specs.Breaking.{Inside, Unbroken, FirstBroken, left_of, right_of}
use Rattle.engines.specs.Whole.{Rests}
use Rattle.engines.proofs.Alikes.{alike_keeper, counted_told, works_alike, explained_alike, whole_alike, content_alike}
use Rattle.engines.proofs.Deciding.{none_breaks, first_breaks, differs_at, impossible, possible, inside, passed, passed_on, broken_one, placed_ends}
use Rattle.engines.proofs.Telling.{tied_in, longer, told_few, told_journal, told_books, same_proper, same_derived, same_closes, same_rests, same_taken, same_begins, rests_again}
use Rattle.engines.proofs.Stopping.{stopped_whole, shown}
use Rattle.engines.proofs.open.Open.same.Goals as goal

pub returns-in_err-entry : goal.returns-in_err-entry
returns-in_err-entry g c =
    let s = c.args.self.now in
    let p = err_from_is_err_and c.from_residual.result c.from_residual.ensures.1 in
    let says : Joined → Answer = λ j. joined j.entry j.joins in
    let h = stopped_whole says g.K.Keeper.limit (content s) (same-entry c.args.a c.args.b) c.args.table.now c.picture_count.result c.entry_count.result c.args.a c.args.b c.picture_count.ensures c.entry_count.ensures
    (λ o. o) (λ oa ob. (oa, ob)) c.from_residual.result c.in_err-entry.field-0.0 (p.1 ∙ ap Err p.2) c.in_err-entry.ensures in
    record { whole = c.requires; answer = h.0; after = h.1; joins = subst (λ (r : Result Joined SheetFault). IfOk r (λ j. class_count (g.K.Keeper.reps s.congruence.keeper) + j.joins ≡ class_count (g.K.Keeper.reps s.congruence.keeper))) (sym p.1) tt; table = h.2 }

pub tie-requires : goal.tie-requires
tie-requires g c =
    let s = c.args.self.now in
    let pass = c.in_ok-entry.ensures in
    let on = passed_on g.K.Keeper.limit (content s) (same-entry c.args.a c.args.b) (length c.args.table.now) c.picture_count.result c.entry_count.result c.args.a c.args.b c.picture_count.ensures c.entry_count.ensures (λ o. o) (λ oa ob. (oa, ob)) pass.1 in
    let l = length-map (vec_items s.congruence.pictures) drawn in
    record {
      holds = works_holds g.K.Keeper g.I.Index s.congruence (g.met.K.Keeper.settled s.congruence.keeper) s.journal_room c.requires.working;
      on = ((on.0.0, omega (arith, on.0.1, l)), (on.1.0, omega (arith, on.1.1, l)));
    }

pub first_broken-requires : goal.first_broken-requires
first_broken-requires g c =
    let s = c.args.self.now in
    let n = (c.tie.ensures.working c.requires.working).ready.counted in
    let rs' = g.K.Keeper.reps c.tie.new.self.keeper in
    subst (All (Inside (length rs'))) (sym c.as_slice.ensures.value)
    (inside (length rs') (pictures_on s) (vec_items s.entries) (n ∙ ap length c.tie.ensures.sheet) c.requires.placed)

pub overflow_sub-result : goal.overflow_sub-result
overflow_sub-result g c =
    let s = c.args.self.now in
    let grows = c.tie.ensures.grows c.requires.working in
    let l = ap length grows.is ∙ length-append (vec_items s.congruence.journal) grows.more in
    omega (arith, l, ap length c.journal-joined.ensures, ap length c.journal.ensures)

pub withdraw-steps-requires : goal.withdraw-steps-requires
withdraw-steps-requires g c =
    let s = c.args.self.now in
    let t = c.args.table.now in
    let E = entries_on s in
    let a = c.args.a in
    let b = c.args.b in
    let k = c.in_ok-entry.entry in
    let cap = g.K.Keeper.limit in
    let t1 = c.tie.new.self in
    let ps' = vec_items t1.pictures in
    let J' = vec_items t1.journal in
    let E' : List Entry = E ++ same-entry a b ∷ [] in
    let j : Join = record { left = a; right = b; cause = By-entry k } in
    let pass = c.in_ok-entry.ensures in
    let on = passed_on cap (content s) (same-entry a b) (length t) c.picture_count.result c.entry_count.result a b c.picture_count.ensures c.entry_count.ensures (λ o. o) (λ oa ob. (oa, ob)) pass.1 in
    let ek : k ≡ length E + 1 = pass.0 ∙ ap (λ (n : ℕ). n + 1) c.entry_count.ensures in
    let tied = tied_in g.K.Keeper g.I.Index cap s.congruence t1 E a b k j refl ek c.requires on.0 on.1 c.tie.ensures.sheet (c.tie.ensures.working c.requires.working)
    (c.tie.ensures.idle c.requires.working c.requires.idle) (c.tie.ensures.grows c.requires.working) (c.tie.ensures.joined c.requires.working) in
    let u : Congruence g.row.K.Denot g.row.I.Denot = record { keeper = c.first_broken.new.k; index = t1.index; pictures = t1.pictures; journal = t1.journal } in
    let same = alike_keeper g.K.Keeper t1 u c.first_broken.ensures.same refl refl refl in
    let fresh : Fresh (sheet ps') J' = derived_fresh (sheet ps') E' J' (subst (λ Q. Derivation Q E' [] (reasons J')) (sym tied.sheets) (same_derived tied)) in
    record {
      working = works_alike g.K.Keeper g.I.Index t1 u same tied.working;
      fresh = rw (same.pictures, same.journal) fresh;
      limit = omega (arith, c.requires.room, ap length tied.sheets, ap (λ x. length (sheet (vec_items x))) same.pictures);
      cells = pass.1.enough;
    }

pub returns-in-None : goal.returns-in-None
returns-in-None g c =
    let s = c.args.self.now in
    let t = c.args.table.now in
    let P = pictures_on s in
    let E = entries_on s in
    let a = c.args.a in
    let b = c.args.b in
    let k = c.in_ok-entry.entry in
    let cap = g.K.Keeper.limit in
    let rs = g.K.Keeper.reps s.congruence.keeper in
    let J = vec_items s.congruence.journal in
    let t1 = c.tie.new.self in
    let rs' = g.K.Keeper.reps t1.keeper in
    let m' = held (g.I.Index.leads t1.index) in
    let ps' = vec_items t1.pictures in
    let J' = vec_items t1.journal in
    let E' : List Entry = E ++ same-entry a b ∷ [] in
    let j : Join = record { left = a; right = b; cause = By-entry k } in
    let pass = c.in_ok-entry.ensures in
    let on = passed_on cap (content s) (same-entry a b) (length t) c.picture_count.result c.entry_count.result a b c.picture_count.ensures c.entry_count.ensures (λ o. o) (λ oa ob. (oa, ob)) pass.1 in
    let ek : k ≡ length E + 1 = pass.0 ∙ ap (λ (n : ℕ). n + 1) c.entry_count.ensures in
    let tied = tied_in g.K.Keeper g.I.Index cap s.congruence t1 E a b k j refl ek c.requires on.0 on.1 c.tie.ensures.sheet (c.tie.ensures.working c.requires.working)
    (c.tie.ensures.idle c.requires.working c.requires.idle) (c.tie.ensures.grows c.requires.working) (c.tie.ensures.joined c.requires.working) in
    let u : Congruence g.row.K.Denot g.row.I.Denot = record { keeper = c.first_broken.new.k; index = t1.index; pictures = t1.pictures; journal = t1.journal } in
    let same = alike_keeper g.K.Keeper t1 u c.first_broken.ensures.same refl refl refl in
    let es = vec_items s.entries in
    let fs = es ++ Same a b ∷ [] in
    let o = c.push_reserved.new.self in
    let ub : Unbroken rs' es (length es) = subst (λ (x : List Told). Unbroken rs' x (length x)) c.as_slice.ensures.value c.in-None.ensures.answer in
    let unbroken = All-push (λ e. ¬ Breaks P E' e) E (same-entry a b) (none_breaks rs' P E' (same_closes tied) es ub) (λ q. q) in
    let pushed : taken fs ≡ E' = map-append entry_of es (Same a b ∷ []) in
    let w : Rests cap rs' ps' (taken fs) m' J' = subst (λ (F : List Entry). Rests cap rs' ps' F m' J') (sym pushed) (same_rests tied unbroken) in
    let joins = length c.journal.result.now - length c.journal-joined.result.now in
    let ej : joins ≡ length J' - length J = omega (arith, ap length c.journal-joined.ensures, ap length c.journal.ensures, ap (λ x. length (vec_items x)) same.journal) in
    record {
      whole = whole_alike g.K.Keeper g.I.Index t1 u same fs (vec_items o) c.push_reserved.ensures.items cap w;
      answer = passed cap (content s) (same-entry a b) (length t) c.picture_count.result c.entry_count.result a b c.picture_count.ensures c.entry_count.ensures (λ o. o) (λ oa ob. (oa, ob)) (joined k joins) pass.1
          (inr (possible (content s) (same-entry a b) (same_proper tied) unbroken, same_taken tied k joins ek ej));
      after = content_alike g.K.Keeper g.I.Index t1 u same fs (vec_items o) c.push_reserved.ensures.items
          ∙ ap₂ (λ (Q : List Picture) (F : List Entry). record { locked = false; pictures = Q; entries = F }) tied.sheets pushed;
      joins = omega (arith, ej, longer tied, told_few tied, counted_told rs P J (g.met.K.Keeper.settled s.congruence.keeper) c.requires.working.ready.counted c.requires.working.books, subst (λ (r : List ℕ). class_count r ≡ class_count rs') (sym c.first_broken.ensures.same) refl, counted_told rs' P J' (g.met.K.Keeper.settled t1.keeper) (tied.working.ready.counted ∙ ap length tied.sheets) (told_journal tied));
      table = refl;
    }

pub returns-in-Some : goal.returns-in-Some
returns-in-Some g c =
    let s = c.args.self.now in
    let t = c.args.table.now in
    let P = pictures_on s in
    let E = entries_on s in
    let a = c.args.a in
    let b = c.args.b in
    let k = c.in_ok-entry.entry in
    let cap = g.K.Keeper.limit in
    let rs = g.K.Keeper.reps s.congruence.keeper in
    let m = held (g.I.Index.leads s.congruence.index) in
    let ps = vec_items s.congruence.pictures in
    let J = vec_items s.congruence.journal in
    let t1 = c.tie.new.self in
    let rs' = g.K.Keeper.reps t1.keeper in
    let ps' = vec_items t1.pictures in
    let J' = vec_items t1.journal in
    let E' : List Entry = E ++ same-entry a b ∷ [] in
    let j : Join = record { left = a; right = b; cause = By-entry k } in
    let pass = c.in_ok-entry.ensures in
    let on = passed_on cap (content s) (same-entry a b) (length t) c.picture_count.result c.entry_count.result a b c.picture_count.ensures c.entry_count.ensures (λ o. o) (λ oa ob. (oa, ob)) pass.1 in
    let ek : k ≡ length E + 1 = pass.0 ∙ ap (λ (n : ℕ). n + 1) c.entry_count.ensures in
    let tied = tied_in g.K.Keeper g.I.Index cap s.congruence t1 E a b k j refl ek c.requires on.0 on.1 c.tie.ensures.sheet (c.tie.ensures.working c.requires.working)
    (c.tie.ensures.idle c.requires.working c.requires.idle) (c.tie.ensures.grows c.requires.working) (c.tie.ensures.joined c.requires.working) in
    let u : Congruence g.row.K.Denot g.row.I.Denot = record { keeper = c.first_broken.new.k; index = t1.index; pictures = t1.pictures; journal = t1.journal } in
    let same = alike_keeper g.K.Keeper t1 u c.first_broken.ensures.same refl refl refl in
    let closes = same_closes tied in
    let es = vec_items s.entries in
    let i = c.in-Some.i in
    let e : Told = c.index-broken.result.now in
    let found : FirstBroken rs' es (Some i) = subst (λ (fs : List Told). FirstBroken rs' fs (Some i)) c.as_slice.ensures.value c.in-Some.ensures.answer in
    let ends = placed_ends P es i e found.0 c.requires.placed in
    let l = left_of (get_or es i e) in
    let r = right_of (get_or es i e) in
    let el : c.left.result ≡ l = c.left.ensures ∙ ap left_of c.index-broken.ensures in
    let er : c.right.result ≡ r = c.right.ensures ∙ ap right_of c.index-broken.ensures in
    let one = broken_one rs' (get_or es i e) (found.1 e) in
    let t' = c.withdraw-steps.new.table in
    let n = c.withdraw-steps.result in
    let o = c.withdraw-steps.new.self in
    let h = c.withdraw-steps.ensures in
    let ex1 = explained_alike g.K.Keeper g.I.Index t1 u same c.left.result c.right.result n t t' h.explained in
    let ex : Explained P (reasons J') l r n t t' = subst (λ Q. Explained Q (reasons J') l r n t t') tied.sheets (subst₂ (λ (x y : ℕ). Explained (sheet ps') (reasons J') x y n t t') el er ex1) in
    let written = ex E' (same_derived tied, told_books tied l r ends.0 ends.1 one) in
    let bad : First (Breaks P E') (i + 1) E' = subst (λ (x : ℕ). First (Breaks P E') x E') (sym (add-one i)) (first_breaks rs' P E' closes es (same-entry a b ∷ []) i e found.0 c.requires.placed (found.1 e) found.2) in
    let which : Differs (i + 1) E' l r = subst (λ (x : ℕ). Differs x E' l r) (sym (add-one i)) (differs_at rs' es (same-entry a b ∷ []) i e found.0 (found.1 e)) in
    let sheets : sheet (vec_items u.pictures) ≡ P = ap (λ x. sheet (vec_items x)) same.pictures ∙ tied.sheets in
    let J'' = vec_items o.congruence.journal in
    let begins : take (length c.journal-joined.result.now) (vec_items u.journal) ≡ J =
    ap (λ x. take (length c.journal-joined.result.now) (vec_items x)) same.journal ∙ same_begins tied (length c.journal-joined.result.now) (ap length c.journal-joined.ensures) in
    let grows : Grows P Any J J'' = subst₂ (λ Q K. Grows Q Any K J'') sheets begins h.grows in
    let same-pictures : pictures_on o ≡ P = ap (λ (x : Content). x.pictures) h.content ∙ sheets in
    let same-entries : entries_on o ≡ E = ap (λ (x : Content). x.entries) h.content in
    let w = rests_again cap rs (g.K.Keeper.reps o.congruence.keeper) ps (vec_items o.congruence.pictures) E m (held (g.I.Index.leads o.congruence.index)) J J'' c.requires same-pictures h.working h.idle grows in
    record {
      whole = subst (λ (F : List Entry). Rests cap (g.K.Keeper.reps o.congruence.keeper) (vec_items o.congruence.pictures) F (held (g.I.Index.leads o.congruence.index)) J'') (sym same-entries) w;
      answer = passed cap (content s) (same-entry a b) (length t) c.picture_count.result c.entry_count.result a b c.picture_count.ensures c.entry_count.ensures (λ o. o) (λ oa ob. (oa, ob)) (refused (contradiction (i + 1) n)) pass.1
          (inl (impossible (content s) (same-entry a b) (i + 1) (same_proper tied) bad, (i + 1, n, l, r, bad, which, shown P E' l r n t t' written, refl)));
      after = ap₂ (λ (Q : List Picture) (F : List Entry). record { locked = false; pictures = Q; entries = F }) same-pictures same-entries;
      joins = tt;
      table = (l, r, which, written);
    }
