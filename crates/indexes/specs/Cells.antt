-- The cells of a chained index: what they hold, and where a signature is found. Assumes nothing.
use Rattle.std.specs.Prelude.{◌≡◌, ℕ, zero, suc, ◌-◌, ◌<◌, ◌≤◌, Bool, true, false, List, [], ◌∷◌, map, length, get_or, is_some, Some, None, Option, MatchOption, slice_index, refl}
use Rattle.std.specs.Option.{option_map}
use Rattle.std.proofs.Common.{sym, ap, subst, ◌∙◌, inl, inr, arith}
use Rattle.std.proofs.Math.Logic.{∥∥₁_elim}
use mathlib.Core.HLevel.{⊥_prop}
use Rattle.std.proofs.lemmas.List.{get_or-map, length-map}
use Rattle.std.proofs.lemmas.Bool.{cases_Bool, true≢false}
use Rattle.chains.specs.Chain.{Chain, Clear}
use Rattle.chains.specs.Seek.{seek}
use Rattle.chains.specs.declared.walks.Found.{Found}
use Rattle.chains.proofs.Paths.{trail, trail_is}
use Rattle.chains.proofs.Edits.{mid_in}
use Rattle.chains.proofs.Sought.{chain_prop, seek_some, seek_none}
use Rattle.indexes.specs.declared.cell.Cell.{Cell}
use Rattle.indexes.specs.Meaning.{Lead, held, apart, same_signature}
use Rattle.indexes.specs.Hash.{bucket_of_signature}
use Rattle.indexes.specs.Buckets.{link_of, spare, lead_in, bucket_for, bucket_of, bears, bears_at, somes, leads_of, Bucket, SortedOut, Located}
use Rattle.indexes.specs.Leads.{has_is}
use Rattle.indexes.specs.Maps.{cons_same, cons_other, apart_parts, held_same, same_is}

-- ---- a bucket's path is the one that is walked
clear_prop : (k : ℕ) (p : List ℕ) → IsProp (Clear k p)
clear_prop k [] x y = refl
clear_prop k (j ∷ p) x y = λ i. ((λ e. ⊥_prop (x.0 e) (y.0 e) i), clear_prop k p x.1 y.1 i)

pub bucket_at : (links buckets : List ℕ) (h b : ℕ) → SortedOut links buckets h b → Bucket links buckets h b (trail (length links) links h)
bucket_at links buckets h b t = record {
  chain = ∥∥₁_elim t (chain_prop links h _) (λ e. subst (Chain links h) (sym (trail_is links h e.0 e.1.chain)) e.1.chain);
  only = λ k n. ∥∥₁_elim t (clear_prop k _) (λ e. subst (Clear k) (sym (trail_is links h e.0 e.1.chain)) (e.1.only k n));
  whole = λ k l m s c. ∥∥₁_elim t ⊥_prop (λ e. e.1.whole k l m s (subst (Clear k) (trail_is links h e.0 e.1.chain) c));
}

-- ---- what is held
pub none_held : (xs : List (Option Lead)) (o : ℕ) (w : List ℕ) → ((i : ℕ) → i < length xs → bears (get_or xs i None) o w ≡ false) → held (somes xs) o w ≡ None
none_held [] o w f = refl
none_held (None ∷ xs) o w f = none_held xs o w (λ i l. f (suc i) (omega arith))
none_held (Some e ∷ xs) o w f = cons_other e (somes xs) o w (f 0 (omega arith)) ∙ none_held xs o w (λ i l. f (suc i) (omega arith))

pub some_held : (xs : List (Option Lead)) (o : ℕ) (w : List ℕ) (i : ℕ) → apart (somes xs) ≡ true → bears (get_or xs i None) o w ≡ true → held (somes xs) o w ≡ option_map (λ e. e.picture) (get_or xs i None)
some_held [] o w i h b = absurd (true≢false (sym b))
some_held (None ∷ xs) o w zero h b = absurd (true≢false (sym b))
some_held (Some e ∷ xs) o w zero h b = cons_same e (somes xs) o w b
some_held (None ∷ xs) o w (suc i) h b = some_held xs o w i h b
some_held (Some e ∷ xs) o w (suc i) h b =
    let q = apart_parts e (somes xs) h in
    let r = some_held xs o w i q.1 b in
    let s = has_is (get_or xs i None) o w b in
    elim (cases_Bool (same_signature e.op e.row o w)) [
      | inl t ↦ absurd (true≢false (ap is_some (sym (r ∙ ap (option_map (λ e. e.picture)) s.1) ∙ held_same (somes xs) e.op o e.row w t ∙ q.0)))
      | inr t ↦ (cons_other e (somes xs) o w t ∙ r)
    ]

-- what has a signature is in the bucket of that signature
pub bucket_bears : (x : Option Lead) (o : ℕ) (w : List ℕ) → bears x o w ≡ true → bucket_for x ≡ bucket_of_signature o w
bucket_bears None o w b = absurd (true≢false (sym b))
bucket_bears (Some e) o w b = let s = same_is e.op o e.row w b in ap (λ x. bucket_of_signature x e.row) s.0 ∙ ap (bucket_of_signature o) s.1

-- ---- a search in a bucket
module _ (cs : List Cell) (hs : List ℕ) (o : ℕ) (w : List ℕ) (p : List ℕ) (k : Bucket (map link_of cs) (map bucket_of cs) (slice_index hs (bucket_of_signature o w)) (bucket_of_signature o w) p) where
  abbrev marks : List Bool
  marks = map (λ c. bears_at c o w) cs

  unmarked : seek marks 0 p ≡ None → (i : ℕ) → i < length cs → bears_at (get_or cs i spare) o w ≡ true → bears_at (get_or cs i spare) o w ≡ false
  unmarked n i l t =
      let e : suc i - 1 ≡ i = omega arith in
      let s : get_or (map bucket_of cs) (suc i - 1) 0 ≡ bucket_of_signature o w = ap (λ x. slice_index (map bucket_of cs) x) e ∙ get_or-map bucket_of cs i spare 0 l ∙ bucket_bears (lead_in (get_or cs i spare)) o w t in
      sym (get_or-map (λ c. bears_at c o w) cs i spare false l) ∙ ap (λ x. get_or marks x false) (sym e)
      ∙ seek_none marks 0 p n (suc i) (k.whole (suc i) (omega arith) (omega (arith, length-map cs link_of)) s)

  pub sought_none : seek marks 0 p ≡ None → held (leads_of cs) o w ≡ None
  sought_none n = none_held (map lead_in cs) o w (λ i l.
      let m : i < length cs = omega (arith, length-map cs lead_in) in
      ap (λ x. bears x o w) (get_or-map lead_in cs i spare None m)
      ∙ elim (cases_Bool (bears_at (get_or cs i spare) o w)) [
        | inl t ↦ unmarked n i m t
        | inr t ↦ t
      ])

  pub sought_some : (f : Found) → seek marks 0 p ≡ Some f → Located cs hs o w f
  sought_some f e =
      let s = seek_some _ 0 p f e in
      let a = subst (Chain (map link_of cs) (slice_index hs (bucket_of_signature o w))) s.is k.chain in
      let m = mid_in (map link_of cs) (slice_index hs (bucket_of_signature o w)) f.cell s.front s.rest a in
      let l : f.cell ≤ length cs = omega (arith, m.1, length-map cs link_of) in
      let i : f.cell - 1 < length cs = omega (arith, m.0, l) in
      record {
        low = m.0;
        high = l;
        bears = λ d. sym (get_or-map (λ c. bears_at c o w) cs (f.cell - 1) d false i) ∙ s.marked;
        on = record { front = s.front; rest = s.rest; chain = a; before = s.before };
      }

  -- what a search comes to
  pub sought : (r : Option Found) → seek marks 0 p ≡ r → MatchOption r (held (leads_of cs) o w ≡ None) (Located cs hs o w)
  sought None n = sought_none n
  sought (Some f) e = sought_some f e

-- a located cell holds the signature
pub located_has : (cs : List Cell) (hs : List ℕ) (o : ℕ) (w : List ℕ) (f : Found) → Located cs hs o w f → bears (get_or (map lead_in cs) (f.cell - 1) None) o w ≡ true
located_has cs hs o w f s =
    ap (λ x. bears x o w) (get_or-map lead_in cs (f.cell - 1) spare None (omega (arith, s.low, s.high))) ∙ s.bears spare

-- what a located cell leads to
pub located_held : (cs : List Cell) (hs : List ℕ) (o : ℕ) (w : List ℕ) (f : Found) → apart (leads_of cs) ≡ true → Located cs hs o w f → (d : Cell) → held (leads_of cs) o w ≡ option_map (λ e. e.picture) (lead_in (get_or cs (f.cell - 1) d))
located_held cs hs o w f once s d =
    some_held (map lead_in cs) o w (f.cell - 1) once (located_has cs hs o w f s)
    ∙ ap (option_map (λ e. e.picture)) (get_or-map lead_in cs (f.cell - 1) d None (omega (arith, s.low, s.high)))

-- a located signature is held
pub located_some : (cs : List Cell) (hs : List ℕ) (o : ℕ) (w : List ℕ) (f : Found) → apart (leads_of cs) ≡ true → Located cs hs o w f → (p : ℕ) × (held (leads_of cs) o w ≡ Some p)
located_some cs hs o w f once s =
    let b = located_has cs hs o w f s in
    let h = has_is _ o w b in
    (h.0.picture, some_held (map lead_in cs) o w (f.cell - 1) once b ∙ ap (option_map (λ e. e.picture)) h.1)
