-- A test of a reason chain that the checker computes. Assumes nothing.
use Rattle.std.proofs.Common.{◌≡◌, ℕ, zero, suc, Bool, true, false, cond, not, ◌&&◌, eqb, leb, ◌⊎◌, List, [], ◌∷◌, ◌++◌, map, length, All, sym, refl, ap, ◌∙◌, subst, inl, inr, append_assoc, append-nil}
use lib.ListN.{length-map}
use Rattle.std.specs.List.{AllZip}
use Rattle.std.proofs.lemmas.Bool.{eqb-true, eqb-false, and_parts, both_ways, not-true}
use Rattle.std.proofs.lemmas.List.Elements.{All-nil}
use Rattle.theory.specs.Sheet.{Picture, Entry, same, differ, On, Proper, operation, inputs}
use Rattle.theory.specs.Reasons.{Reason, by_entry, by_twins, left, right, JoinedBy, Number, Fits, Derivation}
use Rattle.theory.specs.Parts.{Joins}
use Rattle.theory.specs.Journal.{Tracks}
use Rattle.theory.proofs.Journals.{join_more_law, tracks_law, tracks_more_law}
use Rattle.theory.proofs.Slices.{l_refl}
use Rattle.theory.proofs.Naive.{label, eqs, twin?, to, to_hit, merge, fresh, on?, on_on, label_map, label_fresh, length-fresh, inputs_on}
use Rattle.theory.proofs.Each.{uncons}

abbrev pub number? : ℕ → List Entry → ℕ → ℕ → Bool
number? k [] l r = false
number? zero (e ∷ E) l r = false
number? (suc zero) (same a b ∷ E) l r = eqb a l && eqb b r
number? (suc zero) (differ a b ∷ E) l r = false
number? (suc (suc k)) (e ∷ E) l r = number? (suc k) E l r

abbrev pub fits? : List Picture → List Entry → List ℕ → Reason → Bool
fits? P E M (by_entry l r k) = number? k E l r
fits? P E M (by_twins l r) = twin? P M l r

-- the labels after the steps
abbrev pub linked : List ℕ → List Reason → List ℕ
linked M [] = M
linked M (s ∷ T) = linked (merge M (left s) (right s)) T

abbrev pub chain? : List Picture → List Entry → List ℕ → List Reason → Bool
chain? P E M [] = true
chain? P E M (s ∷ T) =
    (on? P (left s) && on? P (right s)) && (fits? P E M s && (not (eqb (label M (left s)) (label M (right s))) && chain? P E (merge M (left s) (right s)) T))

-- A MERGE JOINS
pub swapped : (f g : ℕ → ℕ) (n a b : ℕ) → Joins f g n b a → Joins f g n a b
swapped f g n a b j = record { keeps = j.keeps; meets = sym j.meets; only = λ x y p q r s e. turn x y (j.only x y p q r s e) }
  where
    turn : (x y : ℕ) → (f x ≡ f y) ⊎ (((f x ≡ f b) × (f y ≡ f a)) ⊎ ((f x ≡ f a) × (f y ≡ f b))) → (f x ≡ f y) ⊎ (((f x ≡ f a) × (f y ≡ f b)) ⊎ ((f x ≡ f b) × (f y ≡ f a)))
    turn x y (inl e) = inl e
    turn x y (inr (inl e)) = inr (inr e)
    turn x y (inr (inr e)) = inr (inl e)

module _ (P : List Picture) (E : List Entry) where
  pub to_joins : (M : List ℕ) (a b : ℕ) → length M ≡ length P → On P a → On P b → Joins (label M) (label (map (to (label M a) (label M b)) M)) (length P) a b
  to_joins M a b e oa ob =
      record {
        keeps = λ x y p q r s h. at x (p, q) ∙ ap (to u v) h ∙ sym (at y (r, s));
        meets = at a oa ∙ to_hit u v u refl ∙ sym (at b ob ∙ stays (eqb v u) refl);
        only = λ x y p q r s h. apart x y (eqb (label M x) u) (eqb (label M y) u) refl refl (sym (at x (p, q)) ∙ h ∙ at y (r, s));
      }
    where
      u : ℕ
      u = label M a

      v : ℕ
      v = label M b

      at : (x : ℕ) → On P x → label (map (to u v) M) x ≡ to u v (label M x)
      at x on = label_map P E (to u v) M x e on

      stays : (t : Bool) → eqb v u ≡ t → cond t v v ≡ v
      stays true e = refl
      stays false e = refl

      apart : (x y : ℕ) (s t : Bool) → eqb (label M x) u ≡ s → eqb (label M y) u ≡ t → cond s v (label M x) ≡ cond t v (label M y) →
          (label M x ≡ label M y) ⊎ (((label M x ≡ u) × (label M y ≡ v)) ⊎ ((label M x ≡ v) × (label M y ≡ u)))
      apart x y true true h k e = inl (eqb-true _ _ h ∙ sym (eqb-true _ _ k))
      apart x y true false h k e = inr (inl (eqb-true _ _ h, sym e))
      apart x y false true h k e = inr (inr (e, eqb-true _ _ k))
      apart x y false false h k e = inl e

  merge_joins : (M : List ℕ) (a b : ℕ) → length M ≡ length P → On P a → On P b →
      (length (merge M a b) ≡ length P) × Joins (label M) (label (merge M a b)) (length P) a b
  merge_joins M a b e oa ob = go (leb (label M b) (label M a))
    where
      go : (t : Bool) → let N = cond t (map (to (label M a) (label M b)) M) (map (to (label M b) (label M a)) M) in (length N ≡ length P) × Joins (label M) (label N) (length P) a b
      go true = (length-map M (to (label M a) (label M b)) ∙ e, to_joins M a b e oa ob)
      go false = (length-map M (to (label M b) (label M a)) ∙ e, swapped _ _ _ a b (to_joins M b a e ob oa))

  number_from : (k : ℕ) (F : List Entry) (l r : ℕ) → number? k F l r ≡ true → Number k F l r
  number_from k [] l r t = both_ways false refl t
  number_from zero (e ∷ F) l r t = both_ways false refl t
  number_from (suc zero) (same a b ∷ F) l r t = let h = and_parts (eqb a l) (eqb b r) t in (eqb-true _ _ h.0, eqb-true _ _ h.1)
  number_from (suc zero) (differ a b ∷ F) l r t = both_ways false refl t
  number_from (suc (suc k)) (e ∷ F) l r t = number_from (suc k) F l r t

  -- a journal that is a chain, and labels that tell what it joins
  abbrev pub Grown : List Reason → List ℕ → Type 0
  Grown J M = Derivation P E [] J × Tracks P J (label M)

  module _ (w : Proper P E) where
    joined-each : (J : List Reason) (M : List ℕ) → Tracks P J (label M) → (xs ys : List ℕ) → All (On P) xs → All (On P) ys →
        eqs (map (label M) xs) (map (label M) ys) ≡ true → AllZip (JoinedBy P J) xs ys
    joined-each J M t [] [] h k e = tt
    joined-each J M t [] (y ∷ ys) h k e = both_ways false refl e
    joined-each J M t (x ∷ xs) [] h k e = both_ways false refl e
    joined-each J M t (x ∷ xs) (y ∷ ys) h k e =
        let q = and_parts (eqb (label M x) (label M y)) (eqs (map (label M) xs) (map (label M) ys)) e in
        let u = uncons (On P) x xs h in
        let v = uncons (On P) y ys k in
        (t.told x y u.0 v.0 (eqb-true _ _ q.0), joined-each J M t xs ys u.1 v.1 q.1)

    pub fits-from : (J : List Reason) (M : List ℕ) → Tracks P J (label M) → (s : Reason) → On P (left s) → On P (right s) → fits? P E M s ≡ true → Fits P E J s
    fits-from J M t (by_entry l r k) ol or f = number_from k E l r f
    fits-from J M t (by_twins l r) ol or f =
        let q = and_parts (eqb (operation P l) (operation P r)) (eqs (map (label M) (inputs P l)) (map (label M) (inputs P r))) f in
        (ol, or, (eqb-true _ _ q.0, joined-each J M t (inputs P l) (inputs P r) (inputs_on P E w l ol) (inputs_on P E w r or) q.1))

    chain-from : (J : List Reason) (M : List ℕ) → length M ≡ length P → Grown J M → (T : List Reason) → chain? P E M T ≡ true → Grown (J ++ T) (linked M T)
    chain-from J M e g [] c = subst (λ K. Grown K M) (sym (append-nil J)) g
    chain-from J M e g (s ∷ T) c =
        let a = and_parts (on? P (left s) && on? P (right s)) (fits? P E M s && (not (eqb (label M (left s)) (label M (right s))) && chain? P E (merge M (left s) (right s)) T)) c in
        let o = and_parts (on? P (left s)) (on? P (right s)) a.0 in
        let b = and_parts (fits? P E M s) (not (eqb (label M (left s)) (label M (right s))) && chain? P E (merge M (left s) (right s)) T) a.1 in
        let d = and_parts (not (eqb (label M (left s)) (label M (right s)))) (chain? P E (merge M (left s) (right s)) T) b.1 in
        let ol = on_on P (left s) o.0 in
        let or = on_on P (right s) o.1 in
        let m = merge_joins M (left s) (right s) e ol or in
        let new : Grown (J ++ s ∷ []) (merge M (left s) (right s)) = (
          join_more_law P E J s g.0 (fits-from J M g.1 s ol or b.0) (λ j. eqb-false _ _ (not-true _ d.0) (tracks_law P J (label M) g.1 _ _ j)),
          tracks_more_law P J s (label M) (label (merge M (left s) (right s))) g.1 ol or m.1,
        ) in
        subst (λ K. Grown K (linked (merge M (left s) (right s)) T)) (append_assoc J (s ∷ []) T) (chain-from (J ++ s ∷ []) (merge M (left s) (right s)) m.0 new T d.1)

    pub start : Grown [] (fresh 1 P)
    start = (tt, record { told = λ x y ox oy e. subst (λ z. JoinedBy P [] x z) (sym (label_fresh P x ox) ∙ e ∙ label_fresh P y oy) (l_refl P [] x ox); held = All-nil _ })

    -- WHERE THE TEST PASSES, the steps are a chain, and join what gets one label
    pub shown-from : (T : List Reason) → chain? P E (fresh 1 P) T ≡ true →
        Derivation P E [] T × ((a b : ℕ) → On P a → On P b → label (linked (fresh 1 P) T) a ≡ label (linked (fresh 1 P) T) b → JoinedBy P T a b)
    shown-from T c = let g = chain-from [] (fresh 1 P) (length-fresh 1 P) start T c in (g.0, λ a b oa ob e. g.1.told a b oa ob e)
