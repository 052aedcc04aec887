-- All buckets, once a cell has gone from one to another. Assumes nothing.
use Rattle.std.proofs.Common.{◌≡◌, ℕ, ◌-◌, ◌<◌, ◌≢◌, List, ◌∷◌, ◌++◌, length, get_or, set, sym, ◌∙◌, subst, inl, inr, arith, length-set, get_or-set_other, get_or-set_same}
use Rattle.std.proofs.lemmas.Bool.{cases_eq}
use Rattle.chains.specs.Chain.{Chain}
use Rattle.chains.specs.declared.walks.Found.{Found}
use Rattle.chains.proofs.Paths.{chain_unique}
use Rattle.indexes.specs.Buckets.{Bucket, SortedOut, On}
use Rattle.indexes.specs.Cells.{bucket_at}
use Rattle.indexes.proofs.Moves.{without_next, moved_out, moved_in, moved_by}

pub shifted : (ls bs hs : List ℕ) → length bs ≡ length ls → length hs ≡ 1025 → ((c : ℕ) → c < 1025 → SortedOut ls bs (get_or hs c 0) c) → (from to out : ℕ) (f : Found) → from < 1025 → to < 1025 → (from ≡ to → ⊥) → (on : On ls (get_or hs from 0) f) → Chain (without_next ls f.before f.cell) out (on.front ++ on.rest) → (c : ℕ) → c < 1025 → SortedOut (set (without_next ls f.before f.cell) (f.cell - 1) (get_or hs to 0)) (set bs (f.cell - 1) to) (get_or (set (set hs from out) to f.cell) c 0) c
shifted ls bs hs len hl sorted from to out f lf lt ne on left c lc =
    let k = f.cell in
    let ls' = set (without_next ls f.before k) (k - 1) (get_or hs to 0) in
    let bs' = set bs (k - 1) to in
    let hs' = set (set hs from out) to k in
    let B0 = bucket_at ls bs (get_or hs from 0) from (sorted from lf) in
    let B : Bucket ls bs (get_or hs from 0) from (on.front ++ k ∷ on.rest) = subst (Bucket ls bs (get_or hs from 0) from) (chain_unique ls (get_or hs from 0) _ _ B0.chain on.chain) B0 in
    elim (cases_eq c from) [
      | inl e ↦
          let n : from ≢ to = ne in
          let g : get_or hs' from 0 ≡ out = get_or-set_other (set hs from out) to from k 0 n ∙ get_or-set_same hs from out 0 (omega (arith, hl, lf)) in
          let r : SortedOut ls' bs' (get_or hs' from 0) from = subst (λ x. SortedOut ls' bs' x from) (sym g) ∣ (on.front ++ on.rest, moved_out ls bs len k from to f.before (get_or hs from 0) on.front on.rest B on.before ne out (get_or hs to 0) left) ∣₁ in
          subst (λ x. SortedOut ls' bs' (get_or hs' x 0) x) (sym e) r
      | inr nf ↦ elim (cases_eq c to) [
        | inl e ↦
            let C = bucket_at ls bs (get_or hs to 0) to (sorted to lt) in
            let g : get_or hs' to 0 ≡ k = get_or-set_same (set hs from out) to k 0 (omega (arith, length-set hs from out, hl, lt)) in
            let r : SortedOut ls' bs' (get_or hs' to 0) to = subst (λ x. SortedOut ls' bs' x to) (sym g) ∣ (_, moved_in ls bs len k from to f.before (get_or hs from 0) on.front on.rest B on.before ne (get_or hs to 0) _ C) ∣₁ in
            subst (λ x. SortedOut ls' bs' (get_or hs' x 0) x) (sym e) r
        | inr nt ↦
            let C = bucket_at ls bs (get_or hs c 0) c (sorted c lc) in
            let g : get_or hs' c 0 ≡ get_or hs c 0 = get_or-set_other (set hs from out) to c k 0 nt ∙ get_or-set_other hs from c out 0 nf in
            subst (λ x. SortedOut ls' bs' x c) (sym g) ∣ (_, moved_by ls bs len k from to f.before (get_or hs from 0) on.front on.rest B on.before ne (get_or hs c 0) c (get_or hs to 0) _ (λ e. nf (sym e)) (λ e. nt (sym e)) C) ∣₁
      ]
    ]
