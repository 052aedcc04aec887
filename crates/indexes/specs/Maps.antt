-- Laws of `held`: what one more entry, another picture, or one entry less does to the map. Assumes nothing.
use Rattle.std.specs.Prelude.{◌≡◌, ℕ, suc, ◌<◌, true, false, cond, not, List, [], ◌∷◌, ◌++◌, length, get_or, take, drop, is_some, Some, None, Decides, Option, ◌==◌, slice_index_or, slice_set, refl}
use Rattle.std.proofs.Common.{sym, ap, ◌∙◌, inl, inr, rules}
use Rattle.std.proofs.lemmas.List.{set-get_or, set_split}
use Rattle.std.proofs.lemmas.Slice.Eq.{compares_Decides}
use Rattle.std.proofs.lemmas.Bool.{cases_Bool, cond-true, cond-false, and_parts, and_from, eqb-true, eq-eqb, true≢false}
use Rattle.indexes.specs.Meaning.{Lead, held, apart, same_row, same_signature, leading}
use Rattle.indexes.specs.Records.{Stands}

pub row_decides : (xs ys : List ℕ) → Decides (same_row xs ys) (xs ≡ ys)
row_decides xs ys = compares_Decides same_row (search rules) xs ys

-- one signature, told by the test
pub same_is : (o q : ℕ) (w v : List ℕ) → same_signature o w q v ≡ true → (o ≡ q) × (w ≡ v)
same_is o q w v h = let p = and_parts (o == q) (same_row w v) h in (eqb-true o q p.0, (row_decides w v).0 p.1)

pub is_same : (o q : ℕ) (w v : List ℕ) → o ≡ q → w ≡ v → same_signature o w q v ≡ true
is_same o q w v e f = and_from (o == q) (same_row w v) (eq-eqb o q e) ((row_decides w v).1 f)

pub swapped : (o q : ℕ) (w v : List ℕ) → same_signature o w q v ≡ true → same_signature q v o w ≡ true
swapped o q w v h = let s = same_is o q w v h in is_same q o v w (sym s.0) (sym s.1)

abbrev or_else : Option ℕ → Option ℕ → Option ℕ
or_else None y = y
or_else (Some x) y = Some x

or_none : (x : Option ℕ) → or_else x None ≡ x
or_none None = refl
or_none (Some x) = refl

pub held_append : (xs ys : List Lead) (q : ℕ) (v : List ℕ) → held (xs ++ ys) q v ≡ or_else (held xs q v) (held ys q v)
held_append [] ys q v = refl
held_append (e ∷ xs) ys q v =
    elim (same_signature e.op e.row q v) as (λ b. cond b (Some e.picture) (held (xs ++ ys) q v) ≡ or_else (cond b (Some e.picture) (held xs q v)) (held ys q v))
    [ true ↦ refl | false ↦ held_append xs ys q v ]

-- equal signatures lead to one picture
pub held_same : (es : List Lead) (o q : ℕ) (w v : List ℕ) → same_signature o w q v ≡ true → held es q v ≡ held es o w
held_same es o q w v h = let s = same_is o q w v h in ap (λ x. held es x v) (sym s.0) ∙ ap (held es o) (sym s.1)

-- one entry more, of a signature that was not held
pub held_push : (es : List Lead) (e : Lead) → held es e.op e.row ≡ None → (q : ℕ) (v : List ℕ) → held (es ++ e ∷ []) q v ≡ leading (held es) e.op e.row (Some e.picture) q v
held_push es e none q v =
    held_append es (e ∷ []) q v ∙
    elim (cases_Bool (same_signature e.op e.row q v)) [
      | inl h ↦ (ap (λ x. or_else x (held (e ∷ []) q v)) (held_same es e.op q e.row v h ∙ none)
          ∙ cond-true _ _ _ h ∙ sym (cond-true _ _ _ h))
      | inr h ↦ (ap (or_else (held es q v)) (cond-false _ _ _ h) ∙ or_none (held es q v) ∙ sym (cond-false _ _ _ h))
    ]

-- ---- an entry in the middle
pub cons_same : (e : Lead) (ys : List Lead) (q : ℕ) (v : List ℕ) → same_signature e.op e.row q v ≡ true → held (e ∷ ys) q v ≡ Some e.picture
cons_same e ys q v h = cond-true _ _ _ h

pub cons_other : (e : Lead) (ys : List Lead) (q : ℕ) (v : List ℕ) → same_signature e.op e.row q v ≡ false → held (e ∷ ys) q v ≡ held ys q v
cons_other e ys q v h = cond-false _ _ _ h

-- an entry with the signature o w is no entry with another
other : (e : Lead) (o q : ℕ) (w v : List ℕ) → same_signature e.op e.row o w ≡ true → same_signature o w q v ≡ false → same_signature e.op e.row q v ≡ false
other e o q w v h n =
    let s = same_is e.op o e.row w h in
    ap (λ x. same_signature x e.row q v) s.0 ∙ ap (λ x. same_signature o x q v) s.1 ∙ n

alike : (e : Lead) (o q : ℕ) (w v : List ℕ) → same_signature e.op e.row o w ≡ true → same_signature o w q v ≡ true → same_signature e.op e.row q v ≡ true
alike e o q w v h n =
    let s = same_is e.op o e.row w h in
    ap (λ x. same_signature x e.row q v) s.0 ∙ ap (λ x. same_signature o x q v) s.1 ∙ n

module _ (xs ys : List Lead) (e : Lead) (o : ℕ) (w : List ℕ) (first : held xs o w ≡ None) (is : same_signature e.op e.row o w ≡ true) where
  pub held_replaced : (e' : Lead) → e'.op ≡ e.op → e'.row ≡ e.row → (q : ℕ) (v : List ℕ) → held (xs ++ e' ∷ ys) q v ≡ leading (held (xs ++ e ∷ ys)) o w (Some e'.picture) q v
  held_replaced e' po pr q v =
      let is' : same_signature e'.op e'.row o w ≡ true = ap (λ x. same_signature x e'.row o w) po ∙ ap (λ x. same_signature e.op x o w) pr ∙ is in
      held_append xs (e' ∷ ys) q v ∙
      elim (cases_Bool (same_signature o w q v)) [
        | inl h ↦ (ap (λ x. or_else x (held (e' ∷ ys) q v)) (held_same xs o q w v h ∙ first)
            ∙ cons_same e' ys q v (alike e' o q w v is' h) ∙ sym (cond-true _ _ _ h))
        | inr h ↦ (ap (or_else (held xs q v)) (cons_other e' ys q v (other e' o q w v is' h) ∙ sym (cons_other e ys q v (other e o q w v is h)))
            ∙ sym (held_append xs (e ∷ ys) q v) ∙ sym (cond-false _ _ _ h))
      ]

  pub held_removed : held ys o w ≡ None → (q : ℕ) (v : List ℕ) → held (xs ++ ys) q v ≡ leading (held (xs ++ e ∷ ys)) o w None q v
  held_removed none q v =
      held_append xs ys q v ∙
      elim (cases_Bool (same_signature o w q v)) [
        | inl h ↦ (ap (λ x. or_else x (held ys q v)) (held_same xs o q w v h ∙ first)
            ∙ held_same ys o q w v h ∙ none ∙ sym (cond-true _ _ _ h))
        | inr h ↦ (ap (or_else (held xs q v)) (sym (cons_other e ys q v (other e o q w v is h)))
            ∙ sym (held_append xs (e ∷ ys) q v) ∙ sym (cond-false _ _ _ h))
      ]

  pub held_found : held (xs ++ e ∷ ys) o w ≡ Some e.picture
  held_found = held_append xs (e ∷ ys) o w ∙ ap (λ x. or_else x (held (e ∷ ys) o w)) first ∙ cons_same e ys o w is

-- ---- each signature once
none_is : (x : Option ℕ) → not (is_some x) ≡ true → x ≡ None
none_is None h = refl
none_is (Some x) h = absurd (true≢false (sym h))

is_none : (x : Option ℕ) → x ≡ None → not (is_some x) ≡ true
is_none x h = ap (λ y. not (is_some y)) h

pub apart_parts : (e : Lead) (es : List Lead) → apart (e ∷ es) ≡ true → (held es e.op e.row ≡ None) × (apart es ≡ true)
apart_parts e es h = let p = and_parts (not (is_some (held es e.op e.row))) (apart es) h in (none_is _ p.0, p.1)

apart_from : (e : Lead) (es : List Lead) → held es e.op e.row ≡ None → apart es ≡ true → apart (e ∷ es) ≡ true
apart_from e es n h = and_from (not (is_some (held es e.op e.row))) (apart es) (is_none _ n) h

pub apart_after : (xs : List Lead) (e : Lead) (ys : List Lead) → apart (xs ++ e ∷ ys) ≡ true → held ys e.op e.row ≡ None
apart_after [] e ys h = (apart_parts e ys h).0
apart_after (x ∷ xs) e ys h = apart_after xs e ys (apart_parts x (xs ++ e ∷ ys) h).1

-- a signature that is not held by a list is not held by its parts
or_none_parts : (x y : Option ℕ) → or_else x y ≡ None → (x ≡ None) × (y ≡ None)
or_none_parts None y h = (refl, h)
or_none_parts (Some x) y h = absurd (true≢false (ap is_some h))

cons_none : (e : Lead) (es : List Lead) (q : ℕ) (v : List ℕ) → held (e ∷ es) q v ≡ None → (same_signature e.op e.row q v ≡ false) × (held es q v ≡ None)
cons_none e es q v h =
    elim (cases_Bool (same_signature e.op e.row q v)) [
      | inl t ↦ absurd (true≢false (ap is_some (sym (cons_same e es q v t) ∙ h)))
      | inr f ↦ (f, sym (cons_other e es q v f) ∙ h)
    ]

not_swapped : (o q : ℕ) (w v : List ℕ) → same_signature o w q v ≡ false → same_signature q v o w ≡ false
not_swapped o q w v h =
    elim (cases_Bool (same_signature q v o w)) [
      | inl t ↦ absurd (true≢false (sym (swapped q o v w t) ∙ h))
      | inr f ↦ f
    ]

pub apart_push : (es : List Lead) (e : Lead) → held es e.op e.row ≡ None → apart es ≡ true → apart (es ++ e ∷ []) ≡ true
apart_push [] e n h = refl
apart_push (x ∷ es) e n h =
    let p = apart_parts x es h in
    let c = cons_none x es e.op e.row n in
    let k : held (es ++ e ∷ []) x.op x.row ≡ None =
    held_append es (e ∷ []) x.op x.row ∙ ap (λ y. or_else y (held (e ∷ []) x.op x.row)) p.0
    ∙ cons_other e [] x.op x.row (not_swapped x.op e.op x.row e.row c.0) in
    apart_from x (es ++ e ∷ []) k (apart_push es e c.1 p.1)

-- another picture for a signature
pub apart_replaced : (xs : List Lead) (e e' : Lead) (ys : List Lead) → e'.op ≡ e.op → e'.row ≡ e.row → apart (xs ++ e ∷ ys) ≡ true → apart (xs ++ e' ∷ ys) ≡ true
apart_replaced [] e e' ys po pr h =
    let p = apart_parts e ys h in
    apart_from e' ys (ap (λ x. held ys x e'.row) po ∙ ap (held ys e.op) pr ∙ p.0) p.1
apart_replaced (x ∷ xs) e e' ys po pr h =
    let p = apart_parts x (xs ++ e ∷ ys) h in
    let q = or_none_parts (held xs x.op x.row) (held (e ∷ ys) x.op x.row) (sym (held_append xs (e ∷ ys) x.op x.row) ∙ p.0) in
    let c = cons_none e ys x.op x.row q.1 in
    let f : same_signature e'.op e'.row x.op x.row ≡ false = ap (λ y. same_signature y e'.row x.op x.row) po ∙ ap (λ y. same_signature e.op y x.op x.row) pr ∙ c.0 in
    apart_from x (xs ++ e' ∷ ys)
    (held_append xs (e' ∷ ys) x.op x.row ∙ ap (λ y. or_else y (held (e' ∷ ys) x.op x.row)) q.0 ∙ cons_other e' ys x.op x.row f ∙ c.1)
    (apart_replaced xs e e' ys po pr p.1)

pub apart_removed : (xs : List Lead) (e : Lead) (ys : List Lead) → apart (xs ++ e ∷ ys) ≡ true → apart (xs ++ ys) ≡ true
apart_removed [] e ys h = (apart_parts e ys h).1
apart_removed (x ∷ xs) e ys h =
    let p = apart_parts x (xs ++ e ∷ ys) h in
    let q = or_none_parts (held xs x.op x.row) (held (e ∷ ys) x.op x.row) (sym (held_append xs (e ∷ ys) x.op x.row) ∙ p.0) in
    let c = cons_none e ys x.op x.row q.1 in
    apart_from x (xs ++ ys) (held_append xs ys x.op x.row ∙ ap (λ y. or_else y (held ys x.op x.row)) q.0 ∙ c.1) (apart_removed xs e ys p.1)

-- ---- the same at a place
pub split_at : (es : List Lead) (i : ℕ) (d : Lead) → i < length es → es ≡ take i es ++ slice_index_or es i d ∷ drop (suc i) es
split_at es i d l = sym (set-get_or es i d) ∙ set_split es i (slice_index_or es i d) l

module _ (es : List Lead) (o : ℕ) (w : List ℕ) (i : ℕ) (s : Stands es o w i) (d : Lead) where
  pub held_at : held es o w ≡ Some (get_or es i d).picture
  held_at = ap (λ x. held x o w) (split_at es i d s.within) ∙ held_found (take i es) (drop (suc i) es) (slice_index_or es i d) o w s.before (s.here d)

  pub held_set : (e' : Lead) → e'.op ≡ (get_or es i d).op → e'.row ≡ (get_or es i d).row → (q : ℕ) (v : List ℕ) → held (slice_set es i e') q v ≡ leading (held es) o w (Some e'.picture) q v
  held_set e' po pr q v =
      ap (λ x. held x q v) (set_split es i e' s.within)
      ∙ held_replaced (take i es) (drop (suc i) es) (slice_index_or es i d) o w s.before (s.here d) e' po pr q v
      ∙ ap (λ x. leading (held x) o w (Some e'.picture) q v) (sym (split_at es i d s.within))

  pub apart_set : (e' : Lead) → e'.op ≡ (get_or es i d).op → e'.row ≡ (get_or es i d).row → apart es ≡ true → apart (slice_set es i e') ≡ true
  apart_set e' po pr h =
      ap apart (set_split es i e' s.within)
      ∙ apart_replaced (take i es) (slice_index_or es i d) e' (drop (suc i) es) po pr (ap apart (sym (split_at es i d s.within)) ∙ h)

  pub held_less : apart es ≡ true → (q : ℕ) (v : List ℕ) → held (take i es ++ drop (suc i) es) q v ≡ leading (held es) o w None q v
  held_less h q v =
      let e = get_or es i d in
      let k = apart_after (take i es) e (drop (suc i) es) (ap apart (sym (split_at es i d s.within)) ∙ h) in
      let n : held (drop (suc i) es) o w ≡ None = sym (held_same (drop (suc i) es) o e.op w e.row (swapped e.op o e.row w (s.here d))) ∙ k in
      held_removed (take i es) (drop (suc i) es) e o w s.before (s.here d) n q v
      ∙ ap (λ x. leading (held x) o w None q v) (sym (split_at es i d s.within))

  pub apart_less : apart es ≡ true → apart (take i es ++ drop (suc i) es) ≡ true
  apart_less h = apart_removed (take i es) (slice_index_or es i d) (drop (suc i) es) (ap apart (sym (split_at es i d s.within)) ∙ h)

-- to leave out what is not held changes nothing
pub held_absent : (es : List Lead) (o : ℕ) (w : List ℕ) → held es o w ≡ None → (q : ℕ) (v : List ℕ) → held es q v ≡ leading (held es) o w None q v
held_absent es o w none q v =
    elim (cases_Bool (same_signature o w q v)) [
      | inl h ↦ (held_same es o q w v h ∙ none ∙ sym (cond-true _ _ _ h))
      | inr h ↦ sym (cond-false _ _ _ h)
    ]

-- ---- an entry more, in the middle
pub held_inserted : (xs ys : List Lead) (e : Lead) → held (xs ++ ys) e.op e.row ≡ None → (q : ℕ) (v : List ℕ) → held (xs ++ e ∷ ys) q v ≡ leading (held (xs ++ ys)) e.op e.row (Some e.picture) q v
held_inserted xs ys e none q v =
    let p = or_none_parts (held xs e.op e.row) (held ys e.op e.row) (sym (held_append xs ys e.op e.row) ∙ none) in
    held_append xs (e ∷ ys) q v ∙
    elim (cases_Bool (same_signature e.op e.row q v)) [
      | inl h ↦ (ap (λ x. or_else x (held (e ∷ ys) q v)) (held_same xs e.op q e.row v h ∙ p.0) ∙ cons_same e ys q v h ∙ sym (cond-true _ _ _ h))
      | inr h ↦ (ap (or_else (held xs q v)) (cons_other e ys q v h) ∙ sym (held_append xs ys q v) ∙ sym (cond-false _ _ _ h))
    ]

pub apart_inserted : (xs ys : List Lead) (e : Lead) → held (xs ++ ys) e.op e.row ≡ None → apart (xs ++ ys) ≡ true → apart (xs ++ e ∷ ys) ≡ true
apart_inserted [] ys e n h = apart_from e ys n h
apart_inserted (x ∷ xs) ys e n h =
    let p = apart_parts x (xs ++ ys) h in
    let c = cons_none x (xs ++ ys) e.op e.row n in
    let q = or_none_parts (held xs x.op x.row) (held ys x.op x.row) (sym (held_append xs ys x.op x.row) ∙ p.0) in
    let k : held (xs ++ e ∷ ys) x.op x.row ≡ None =
    held_append xs (e ∷ ys) x.op x.row ∙ ap (λ y. or_else y (held (e ∷ ys) x.op x.row)) q.0
    ∙ cons_other e ys x.op x.row (not_swapped x.op e.op x.row e.row c.0) ∙ q.1 in
    apart_from x (xs ++ e ∷ ys) k (apart_inserted xs ys e c.1 p.1)

pub apart_before : (xs : List Lead) (e : Lead) (ys : List Lead) → apart (xs ++ e ∷ ys) ≡ true → held xs e.op e.row ≡ None
apart_before [] e ys h = refl
apart_before (x ∷ xs) e ys h =
    let p = apart_parts x (xs ++ e ∷ ys) h in
    let q = or_none_parts (held xs x.op x.row) (held (e ∷ ys) x.op x.row) (sym (held_append xs (e ∷ ys) x.op x.row) ∙ p.0) in
    let c = cons_none e ys x.op x.row q.1 in
    cons_other x xs e.op e.row (not_swapped e.op x.op e.row x.row c.0) ∙ apart_before xs e ys p.1
