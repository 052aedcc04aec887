-- Free cells: how many signatures are held, the first free cell, and one cell more. Assumes nothing.
use Rattle.std.specs.Prelude.{◌≡◌, ℕ, zero, suc, ◌-◌, ◌<◌, ◌≤◌, ◌≢◌, List, [], ◌∷◌, ◌++◌, map, length, get_or, is_some, Some, None, Option, replicate, nat_lt, slice_index, slice_set, refl}
use Rattle.std.proofs.Common.{sym, ap, subst, ◌∙◌, inl, inr, arith, get_or-set_other, get_or-set_same}
use Rattle.std.proofs.lemmas.List.{get_or-map, get_or-replicate, length-map, map_push, length_push, get_or_push, get_or_append_left, get_or_past, append-nil}
use Rattle.std.proofs.lemmas.Bool.{cases_eq, cases_Bool, ltb-true, ltb-false, true≢false}
use Rattle.chains.specs.Chain.{Chain, after_cell}
use Rattle.indexes.specs.declared.cell.Cell.{Cell}
use Rattle.indexes.specs.Meaning.{Lead}
use Rattle.indexes.specs.Buckets.{link_of, spare, lead_in, bucket_for, bucket_of, somes, leads_of, Bucket, SortedOut, On}
use Rattle.indexes.specs.Cells.{bucket_at}
use Rattle.indexes.specs.Held.{bucket_low}
use Rattle.indexes.specs.Leads.{somes_append}

-- ---- how many signatures are held
somes_few : (xs : List (Option Lead)) → length (somes xs) ≤ length xs
somes_few [] = omega arith
somes_few (None ∷ xs) = omega (arith, somes_few xs)
somes_few (Some e ∷ xs) = omega (arith, somes_few xs)

pub leads_few : (cs : List Cell) → length (leads_of cs) ≤ length cs
leads_few cs = omega (arith, somes_few (map lead_in cs), length-map cs lead_in)

one_free : (xs : List (Option Lead)) (i : ℕ) → i < length xs → get_or xs i None ≡ None → length (somes xs) < length xs
one_free [] i l u = absurd (omega arith)
one_free (None ∷ xs) i l u = omega (arith, somes_few xs)
one_free (Some e ∷ xs) zero l u = absurd (true≢false (ap is_some u))
one_free (Some e ∷ xs) (suc i) l u = omega (arith, one_free xs i (omega arith) u)

all_used : (xs : List (Option Lead)) → ((i : ℕ) → i < length xs → bucket_for (get_or xs i None) ≢ 0) → length (somes xs) ≡ length xs
all_used [] f = refl
all_used (None ∷ xs) f = absurd (f 0 (omega arith) refl)
all_used (Some e ∷ xs) f = ap suc (all_used xs (λ i l. f (suc i) (omega arith)))

-- ---- the chain of the free cells
free_is : (x : Option Lead) → bucket_for x ≡ 0 → x ≡ None
free_is None e = refl
free_is (Some l) e = absurd (omega (arith, bucket_low l.op l.row, e))

-- the bucket of the cell at a place
bucket_there : (cs : List Cell) (i : ℕ) → i < length cs → slice_index (map bucket_of cs) i ≡ bucket_for (get_or (map lead_in cs) i None)
bucket_there cs i l =
    get_or-map bucket_of cs i spare 0 l ∙ ap bucket_for (sym (get_or-map lead_in cs i spare None l))

-- where the chain has no cell, none is free
none_free : (ls bs : List ℕ) (p : List ℕ) → Bucket ls bs 0 0 p → (k : ℕ) → 0 < k → k ≤ length ls → slice_index bs (k - 1) ≢ 0
none_free ls bs [] u k z l e = u.whole k z l e tt
none_free ls bs (j ∷ p) u k z l e = omega (arith, u.chain.0, u.chain.1)

pub full_used : (cs : List Cell) (h : ℕ) → h ≡ 0 → SortedOut (map link_of cs) (map bucket_of cs) h 0 → length (leads_of cs) ≡ length cs
full_used cs h z t =
    let u = bucket_at (map link_of cs) (map bucket_of cs) 0 0 (subst (λ x. SortedOut (map link_of cs) (map bucket_of cs) x 0) z t) in
    all_used (map lead_in cs) (λ i l e.
    let m : i < length cs = omega (arith, length-map cs lead_in) in
    let j : suc i - 1 ≡ i = omega arith in
    none_free _ _ _ u (suc i) (omega arith) (omega (arith, length-map cs link_of)) (ap (λ x. slice_index (map bucket_of cs) x) j ∙ bucket_there cs i m ∙ e))
    ∙ length-map cs lead_in

-- the first cell of the chain is free
pub record First (cs : List Cell) (h : ℕ) : Type 0 where
  pub low : 0 < h
  pub high : h ≤ length cs
  pub free : get_or (map lead_in cs) (h - 1) None ≡ None
  pub on : On (map link_of cs) h (record { before = 0; cell = h })

first_at : (cs : List Cell) (h : ℕ) (p : List ℕ) → (h ≢ 0) → Bucket (map link_of cs) (map bucket_of cs) h 0 p → First cs h
first_at cs h [] nz u = absurd (nz u.chain)
first_at cs h (k ∷ p) nz u =
    let e : h ≡ k = u.chain.0 in
    let l : h ≤ length cs = omega (arith, u.chain.2, length-map cs link_of) in
    let b : slice_index (map bucket_of cs) (h - 1) ≡ 0 = elim (cases_eq (slice_index (map bucket_of cs) (h - 1)) 0) [ inl t ↦ t | inr t ↦ absurd ((u.only h t).0 (sym e)) ] in
    record {
      low = omega (arith, nz);
      high = l;
      free = free_is _ (sym (bucket_there cs (h - 1) (omega (arith, nz, l))) ∙ b);
      on = record { front = []; rest = p; chain = (refl, omega (arith, nz), omega (arith, u.chain.2), subst (λ x. Chain (map link_of cs) (after_cell (map link_of cs) x) p) (sym e) u.chain.3); before = refl };
    }

pub first_free : (cs : List Cell) (h : ℕ) → (h ≢ 0) → SortedOut (map link_of cs) (map bucket_of cs) h 0 → First cs h
first_free cs h nz t = first_at cs h _ nz (bucket_at _ _ h 0 t)

pub free_few : (cs : List Cell) (h : ℕ) → First cs h → length (leads_of cs) < length cs
free_few cs h f = omega (arith, one_free (map lead_in cs) (h - 1) (omega (arith, f.low, f.high, length-map cs lead_in)) f.free, length-map cs lead_in)

-- ---- no cell at all
pub none_sorted : (cs : List Cell) (hs : List ℕ) (n b : ℕ) → cs ≡ [] → hs ≡ replicate n 0 → b < n → SortedOut (map link_of cs) (map bucket_of cs) (slice_index hs b) b
none_sorted cs hs n b e f l =
    subst (λ x. SortedOut (map link_of x) (map bucket_of x) (slice_index hs b) b) (sym e)
    ∣ ([], record { chain = ap (λ x. slice_index x b) f ∙ get_or-replicate n b 0 0 l; only = λ k d. tt; whole = λ k z m s c. omega arith }) ∣₁

-- ---- one cell more, which is free
chain_grown : (ls : List ℕ) (x h : ℕ) (p : List ℕ) → Chain ls h p → Chain (ls ++ x ∷ []) h p
chain_grown ls x h [] a = a
chain_grown ls x h (k ∷ p) a =
    let i : k - 1 < length ls = omega (arith, a.1, a.2) in (
      a.0,
      a.1,
      omega (arith, a.2, length_push ls x),
      subst (λ y. Chain (ls ++ x ∷ []) y p) (sym (get_or_append_left ls (x ∷ []) 0 (k - 1) i)) (chain_grown ls x (after_cell ls k) p a.3),
    )

module _ (ls bs : List ℕ) (len : length bs ≡ length ls) where
  abbrev ls' : List ℕ
  ls' = ls ++ 0 ∷ []

  abbrev bs' : List ℕ
  bs' = bs ++ 0 ∷ []

  same_bucket : (k : ℕ) → 0 < k → k ≤ length ls → slice_index bs' (k - 1) ≡ slice_index bs (k - 1)
  same_bucket k z l = get_or_append_left bs (0 ∷ []) 0 (k - 1) (omega arith)

  new_bucket : (k : ℕ) → k ≡ suc (length ls) → slice_index bs' (k - 1) ≡ 0
  new_bucket k e = get_or_push bs 0 0 (k - 1) (omega arith)

  -- the chain of the free cells, which had none
  pub grown_free : (h : ℕ) → h ≡ 0 → SortedOut ls bs h 0 → SortedOut ls' bs' (suc (length ls)) 0
  grown_free h z t =
      let n = length ls in
      let u = bucket_at ls bs 0 0 (subst (λ x. SortedOut ls bs x 0) z t) in
      let j : suc n - 1 ≡ n = omega arith in
      ∣ (
        suc n ∷ [],
        record {
          chain = (refl, omega arith, omega (arith, length_push ls 0), ap (λ x. slice_index ls' x) j ∙ get_or_push ls 0 0 n refl);
          only = λ k d. ((λ e. d (new_bucket k (sym e))), tt);
          whole = λ k y l e c.
              let m : k ≤ n = omega (arith, l, length_push ls 0, c.0) in
              none_free ls bs _ u k y m (sym (same_bucket k y m) ∙ e);
        },
      ) ∣₁

  -- the chain of another bucket
  pub grown_other : (h b : ℕ) → (b ≢ 0) → SortedOut ls bs h b → SortedOut ls' bs' h b
  grown_other h b nb t =
      let u = bucket_at ls bs h b t in
      ∣ (
        _,
        record {
          chain = chain_grown ls 0 h _ u.chain;
          only = λ k d. u.only k (λ e. d (kept k e));
          whole = λ k y l e c.
              let m : k ≤ length ls = omega (arith, l, length_push ls 0, λ (q : k ≡ suc (length ls)). nb (sym e ∙ new_bucket k q)) in
              u.whole k y m (sym (same_bucket k y m) ∙ e) c;
        },
      ) ∣₁
    where
      kept : (k : ℕ) → slice_index bs (k - 1) ≡ b → slice_index bs' (k - 1) ≡ b
      kept k e =
          elim (cases_Bool (nat_lt (k - 1) (length bs))) [
            | inl l ↦ (get_or_append_left bs (0 ∷ []) 0 (k - 1) (ltb-true (k - 1) (length bs) l) ∙ e)
            | inr l ↦ absurd (nb (sym e ∙ get_or_past bs (k - 1) 0 (ltb-false (k - 1) (length bs) l)))
          ]

-- all buckets, once a free cell stands behind the others, as the only one of its chain
pub grown : (cs : List Cell) (hs : List ℕ) (c : Cell) (n : ℕ) → c ≡ spare → length hs ≡ 1025 → slice_index hs 0 ≡ 0 → n ≡ suc (length cs) → ((b : ℕ) → b < 1025 → SortedOut (map link_of cs) (map bucket_of cs) (slice_index hs b) b) → (b : ℕ) → b < 1025 → SortedOut (map link_of (cs ++ c ∷ [])) (map bucket_of (cs ++ c ∷ [])) (slice_index (slice_set hs 0 n) b) b
grown cs hs c n u hl z e sorted b l =
    let ls = map link_of cs in
    let bs = map bucket_of cs in
    let len = length-map cs bucket_of ∙ sym (length-map cs link_of) in
    let lk : map link_of (cs ++ c ∷ []) ≡ ls ++ 0 ∷ [] = map_push link_of cs c ∙ ap (λ y. ls ++ link_of y ∷ []) u in
    let bk : map bucket_of (cs ++ c ∷ []) ≡ bs ++ 0 ∷ [] = map_push bucket_of cs c ∙ ap (λ y. bs ++ bucket_of y ∷ []) u in
    let all : SortedOut (ls ++ 0 ∷ []) (bs ++ 0 ∷ []) (slice_index (slice_set hs 0 n) b) b =
    elim (cases_eq b 0) [
      | inl y ↦
          let g : get_or (slice_set hs 0 n) 0 0 ≡ suc (length ls) = get_or-set_same hs 0 n 0 (omega arith) ∙ e ∙ ap suc (sym (length-map cs link_of)) in
          let r : SortedOut (ls ++ 0 ∷ []) (bs ++ 0 ∷ []) (slice_index (slice_set hs 0 n) 0) 0 = subst (λ h. SortedOut (ls ++ 0 ∷ []) (bs ++ 0 ∷ []) h 0) (sym g) (grown_free ls bs len (slice_index hs 0) z (sorted 0 (omega arith))) in
          subst (λ k. SortedOut (ls ++ 0 ∷ []) (bs ++ 0 ∷ []) (slice_index (slice_set hs 0 n) k) k) (sym y) r
      | inr y ↦
          let ne : b ≢ 0 = y in
          subst (λ h. SortedOut (ls ++ 0 ∷ []) (bs ++ 0 ∷ []) h b) (sym (get_or-set_other hs 0 b n 0 ne)) (grown_other ls bs len (slice_index hs b) b y (sorted b l))
    ] in
    subst (λ k. SortedOut k (map bucket_of (cs ++ c ∷ [])) (slice_index (slice_set hs 0 n) b) b) (sym lk)
    (subst (λ k. SortedOut (ls ++ 0 ∷ []) k (slice_index (slice_set hs 0 n) b) b) (sym bk) all)

pub leads_grown : (cs : List Cell) (c : Cell) → c ≡ spare → leads_of (cs ++ c ∷ []) ≡ leads_of cs
leads_grown cs c u =
    ap somes (map_push lead_in cs c ∙ ap (λ y. map lead_in cs ++ lead_in y ∷ []) u) ∙ somes_append (map lead_in cs) (None ∷ []) ∙ append-nil (leads_of cs)
