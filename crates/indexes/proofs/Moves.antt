-- A cell goes from one bucket to another. Assumes nothing.
use Rattle.std.proofs.Common.{◌≡◌, ℕ, ◌-◌, ◌<◌, ◌≤◌, true, false, cond, eqb, List, [], ◌∷◌, ◌++◌, length, get_or, set, sym, refl, ap, ◌∙◌, subst, inl, inr, arith, length-set, get_or-set_other, get_or-set_same}
use Rattle.std.proofs.lemmas.Bool.{cases_eq, cases_Bool, eqb-false, cond-true, cond-false}
use Rattle.chains.specs.Chain.{Chain, Clear, last_or, after_cell}
use Rattle.chains.proofs.Edits.{mid_in}
use Rattle.chains.proofs.Paths.{chain_clear, chain_kept, chain_front}
use Rattle.indexes.specs.Buckets.{Bucket}

-- the links once the cell after `before` is left out
abbrev pub without_next : List ℕ → ℕ → ℕ → List ℕ
without_next links before cell = cond (eqb before 0) links (set links (before - 1) (after_cell links cell))

clear_drop : (j k : ℕ) (f r : List ℕ) → Clear j (f ++ k ∷ r) → Clear j (f ++ r)
clear_drop j k [] r c = c.1
clear_drop j k (i ∷ f) r c = (c.0, clear_drop j k f r c.1)

clear_add : (j k : ℕ) (f r : List ℕ) → (k ≡ j → ⊥) → Clear j (f ++ r) → Clear j (f ++ k ∷ r)
clear_add j k [] r n c = (n, c)
clear_add j k (i ∷ f) r n c = (c.0, clear_add j k f r n c.1)

clear_mid : (j k : ℕ) (f r : List ℕ) → Clear j (f ++ k ∷ r) → k ≡ j → ⊥
clear_mid j k [] r c = c.0
clear_mid j k (i ∷ f) r c = clear_mid j k f r c.1

clear_end : (j d : ℕ) (f r : List ℕ) → Clear j (f ++ r) → last_or d f ≡ j → (d ≡ j → ⊥) → ⊥
clear_end j d [] r c e n = n e
clear_end j d (i ∷ f) r c e n = clear_end j i f r c.1 e c.0

pub without : (ls : List ℕ) (h k : ℕ) (f r : List ℕ) → Chain ls h (f ++ k ∷ r) → Clear k (f ++ r)
without ls h k [] r a = chain_clear ls h k r a
without ls h k (j ∷ f) r a =
    ((λ e. clear_mid j k f r (chain_clear ls h j (f ++ k ∷ r) a) (sym e)), without ls (after_cell ls j) k f r a.3)

no_zero : (ls : List ℕ) (h : ℕ) (p : List ℕ) → Chain ls h p → Clear 0 p
no_zero ls h [] a = tt
no_zero ls h (j ∷ p) a = ((λ e. omega (arith, e, a.1)), no_zero ls (after_cell ls j) p a.3)

pub length_without : (ls : List ℕ) (before k : ℕ) → length (without_next ls before k) ≡ length ls
length_without ls before k =
    elim (eqb before 0) as (λ b. length (cond b ls (set ls (before - 1) (after_cell ls k))) ≡ length ls) [ true ↦ refl | false ↦ length-set ls (before - 1) (after_cell ls k) ]

module _ (ls bs : List ℕ) (len : length bs ≡ length ls) (k a b before ha : ℕ) (front rest : List ℕ)
    (from : Bucket ls bs ha a (front ++ k ∷ rest)) (last : before ≡ last_or 0 front) (ne : a ≡ b → ⊥) where
  place : (0 < k) × (k ≤ length ls)
  place = mid_in ls ha k front rest from.chain

  a_is : get_or bs (k - 1) 0 ≡ a
  a_is =
      elim (cases_eq (get_or bs (k - 1) 0) a) [
        | inl e ↦ e
        | inr n ↦ absurd (clear_mid k k front rest (from.only k n) refl)
      ]

  -- the cell before k is in the bucket that k leaves
  before_in : (before ≡ 0 → ⊥) → get_or bs (before - 1) 0 ≡ a
  before_in nz =
      elim (cases_eq (get_or bs (before - 1) 0) a) [
        | inl e ↦ e
        | inr n ↦ absurd (clear_end before 0 front (k ∷ rest) (from.only before n) (sym last) (λ e. nz (sym e)))
      ]

  -- a chain of another bucket, once k is out
  kept_out : (h c : ℕ) (p : List ℕ) → (a ≡ c → ⊥) → Bucket ls bs h c p → Chain (without_next ls before k) h p
  kept_out h c p n u =
      elim (cases_Bool (eqb before 0)) [
        | inl z ↦ subst (λ x. Chain x h p) (sym (cond-true _ _ _ z)) u.chain
        | inr z ↦
            let nz = eqb-false before 0 z in
            subst (λ x. Chain x h p) (sym (cond-false _ _ _ z))
            (chain_kept ls h p before _ (omega (arith, nz)) (u.only before (λ e. n (sym (before_in nz) ∙ e))) u.chain)
      ]

  other_is : (j : ℕ) → (j ≡ k → ⊥) → 0 < j → get_or (set bs (k - 1) b) (j - 1) 0 ≡ get_or bs (j - 1) 0
  other_is j n z = get_or-set_other bs (k - 1) (j - 1) b 0 (λ e. n (omega (arith, e, z, place.0)))

  same_is' : get_or (set bs (k - 1) b) (k - 1) 0 ≡ b
  same_is' = get_or-set_same bs (k - 1) b 0 (omega (arith, place.0, place.1, len))

  only_at : (j : ℕ) → (get_or (set bs (k - 1) b) (j - 1) 0 ≡ a → ⊥) → (j ≡ k → ⊥) → Clear j (front ++ k ∷ rest)
  only_at j m d =
      elim (cases_eq j 0) [
        | inl z ↦ subst (λ x. Clear x (front ++ k ∷ rest)) (sym z) (no_zero ls ha (front ++ k ∷ rest) from.chain)
        | inr z ↦ from.only j (λ e. m (other_is j d (omega (arith, z)) ∙ e))
      ]

  pub moved_out : (h n : ℕ) → Chain (without_next ls before k) h (front ++ rest) → Bucket (set (without_next ls before k) (k - 1) n) (set bs (k - 1) b) h a (front ++ rest)
  moved_out h n g = record {
    chain = chain_kept _ h (front ++ rest) k n place.0 (without ls ha k front rest from.chain) g;
    only = λ j m. elim (cases_eq j k) [
      | inl e ↦ subst (λ x. Clear x (front ++ rest)) (sym e) (without ls ha k front rest from.chain)
      | inr d ↦ clear_drop j k front rest (only_at j m d)
    ];
    whole = λ j z l m c. elim (cases_eq j k) [
      | inl e ↦ ne (sym (sym same_is' ∙ ap (λ x. get_or (set bs (k - 1) b) (x - 1) 0) (sym e) ∙ m))
      | inr d ↦ from.whole j z (omega (arith, l, length-set (without_next ls before k) (k - 1) n, length_without ls before k)) (sym (other_is j d z) ∙ m) (clear_add j k front rest (λ e. d (sym e)) c)
    ];
  }

  -- a chain that k joins, at its front
  pub moved_in : (h : ℕ) (p : List ℕ) → Bucket ls bs h b p → Bucket (set (without_next ls before k) (k - 1) h) (set bs (k - 1) b) k b (k ∷ p)
  moved_in h p u =
      let off : Clear k p = u.only k (λ e. ne (sym a_is ∙ e)) in
      record {
        chain = chain_front (without_next ls before k) h p k place.0 (omega (arith, place.1, length_without ls before k)) off (kept_out h b p ne u);
        only = λ j m. elim (cases_eq j k) [
          | inl e ↦ absurd (m (ap (λ x. get_or (set bs (k - 1) b) (x - 1) 0) e ∙ same_is'))
          | inr d ↦ (
            (λ e. d (sym e)),
            elim (cases_eq j 0) [
              | inl z ↦ subst (λ x. Clear x p) (sym z) (no_zero ls h p u.chain)
              | inr z ↦ u.only j (λ e. m (other_is j d (omega (arith, z)) ∙ e))
            ],
          )
        ];
        whole = λ j z l m c. u.whole j z (omega (arith, l, length-set (without_next ls before k) (k - 1) h, length_without ls before k)) (sym (other_is j (λ e. c.0 (sym e)) z) ∙ m) c.1;
      }

  -- a chain that k neither leaves nor joins
  pub moved_by : (h c n : ℕ) (p : List ℕ) → (a ≡ c → ⊥) → (b ≡ c → ⊥) → Bucket ls bs h c p → Bucket (set (without_next ls before k) (k - 1) n) (set bs (k - 1) b) h c p
  moved_by h c n p na nb u =
      let off : Clear k p = u.only k (λ e. na (sym a_is ∙ e)) in
      record {
        chain = chain_kept _ h p k n place.0 off (kept_out h c p na u);
        only = λ j m. elim (cases_eq j k) [
          | inl e ↦ subst (λ x. Clear x p) (sym e) off
          | inr d ↦ elim (cases_eq j 0) [
            | inl z ↦ subst (λ x. Clear x p) (sym z) (no_zero ls h p u.chain)
            | inr z ↦ u.only j (λ e. m (other_is j d (omega (arith, z)) ∙ e))
          ]
        ];
        whole = λ j z l m g. elim (cases_eq j k) [
          | inl e ↦ nb (sym same_is' ∙ ap (λ x. get_or (set bs (k - 1) b) (x - 1) 0) (sym e) ∙ m)
          | inr d ↦ u.whole j z (omega (arith, l, length-set (without_next ls before k) (k - 1) n, length_without ls before k)) (sym (other_is j d z) ∙ m) g
        ];
      }
