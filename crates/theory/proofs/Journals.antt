-- The laws of the journal. Assumes nothing.
use Rattle.std.proofs.Common.{◌≡◌, ℕ, zero, suc, ◌+◌, ◌≤◌, Bool, cond, eqb, leb, ◌⊎◌, List, [], ◌∷◌, ◌++◌, length, All, sym, refl, ap, ◌∙◌, subst, subst₂, inl, inr, arith, length-append}
use native.Mathlib.Decide.{dec_le}
use Rattle.std.specs.List.{AllZip}
use Rattle.std.proofs.lemmas.List.{get_or_append_left}
use Rattle.std.proofs.lemmas.List.Elements.{All-push, All-weaker, All-cons, All-head, All-nil, All-tail}
use Rattle.std.proofs.lemmas.Bool.{cond-true, cond-false, le-leb, lt-leb, eq-eqb, eqb-true}
use Rattle.theory.specs.Sheet.{Picture, Entry, same, differ, blank, picture, inputs, On, Proper, Is}
use Rattle.theory.specs.Reasons.{Reason, by_entry, by_twins, left, right, Equivalence, JoinedBy, Number, Fits, Derivation, StepLaw}
use Rattle.theory.specs.Journal.{JoinMoreLaw, EntryMoreLaw, PictureMoreLaw, TracksLaw, TracksMoreLaw}
use Rattle.theory.proofs.Slices.{Part, l_sym, l_trans, l_more}
use Rattle.theory.proofs.Few.{ends_on}
use Rattle.theory.proofs.Each.{uncons}

each_more : (R Q : ℕ → ℕ → Type 0) → ((x y : ℕ) → R x y → Q x y) → (xs ys : List ℕ) → AllZip R xs ys → AllZip Q xs ys
each_more R Q h [] [] e = tt
each_more R Q h [] (y ∷ ys) e = absurd e
each_more R Q h (x ∷ xs) [] e = absurd e
each_more R Q h (x ∷ xs) (y ∷ ys) e = (h x y e.0, each_more R Q h xs ys e.1)

-- ONE MORE JOIN. The steps that a chain has behind it at its end
abbrev past : List Reason → List Reason → List Reason
past S [] = S
past S (t ∷ T) = past (t ∷ S) T

past_all : (Q : Reason → Type 0) (S T : List Reason) → All Q S → All Q T → All Q (past S T)
past_all Q S [] a b = a
past_all Q S (t ∷ T) a b = let h = uncons Q t T b in past_all Q (t ∷ S) T (All-cons Q t S h.0 a) h.1

past_has : (Q : Reason → Type 0) (S T : List Reason) → All Q (past S T) → All Q S × All Q T
past_has Q S [] a = (a, All-nil _)
past_has Q S (t ∷ T) a = let r = past_has Q (t ∷ S) T a in let h = uncons Q t S r.0 in (h.1, All-cons Q t T h.0 r.1)

pub fits_more : (P : List Picture) (E : List Entry) (S V : List Reason) → Part S V → (s : Reason) → Fits P E S s → Fits P E V s
fits_more P E S V p (by_entry l r k) f = f
fits_more P E S V p (by_twins l r) f = (f.0, f.1, (f.2.0, each_more (JoinedBy P S) (JoinedBy P V) (l_more P S V p) (inputs P l) (inputs P r) f.2.1))

push : (P : List Picture) (E : List Entry) (V : List Reason) (s : Reason) → Fits P E V s → ¬ JoinedBy P V (left s) (right s) →
    (S T : List Reason) → Part V (past S T) → Part (past S T) V → Derivation P E S T → Derivation P E S (T ++ s ∷ [])
push P E V s f n S [] p q c = (fits_more P E V S p s f, (λ l. n (l_more P S V q _ _ l)), tt)
push P E V s f n S (t ∷ T) p q c = (c.0, c.1, push P E V s f n (t ∷ S) T p q c.2)

pub join_more_law : JoinMoreLaw
join_more_law P E J s c f n = push P E J s f n [] J (λ Q a. (past_has Q [] J a).1) (λ Q a. past_all Q [] J (All-nil _) a) c

-- ONE STEP OF A CHAIN
parted : (P : List Picture) (E : List Entry) (R S : List Reason) (s : Reason) (T : List Reason) → Derivation P E R (S ++ s ∷ T) →
    Fits P E (past R S) s × (¬ JoinedBy P (past R S) (left s) (right s))
parted P E R [] s T c = (c.0, c.1)
parted P E R (x ∷ S) s T c = parted P E (x ∷ R) S s T c.2

after_those : (P : List Picture) (E : List Entry) (S : List Reason) (s : Reason) (T : List Reason) → Derivation P E [] (S ++ s ∷ T) →
    Fits P E S s × (¬ JoinedBy P S (left s) (right s))
after_those P E S s T c =
    let h = parted P E [] S s T c in
    (fits_more P E (past [] S) S (λ Q a. past_all Q [] S (All-nil _) a) s h.0, (λ j. h.1 (l_more P S (past [] S) (λ Q a. (past_has Q [] S a).1) _ _ j)))

pub step_law : StepLaw
step_law P E S T l r = (
  (λ k c. after_those P E S (by_entry l r k) T c),
  (λ c. let h = after_those P E S (by_twins l r) T c in (h.0.2.0, h.0.2.1, h.1)),
)

-- ONE MORE ENTRY
number_more : (k : ℕ) (E F : List Entry) (l r : ℕ) → Number k E l r → Number k (E ++ F) l r
number_more k [] F l r n = absurd n
number_more zero (e ∷ E) F l r n = absurd n
number_more (suc zero) (same a b ∷ E) F l r n = n
number_more (suc zero) (differ a b ∷ E) F l r n = absurd n
number_more (suc (suc k)) (e ∷ E) F l r n = number_more (suc k) E F l r n

pub entry_more_law : EntryMoreLaw
entry_more_law P E e J c = go [] J c
  where
    fit : (S : List Reason) (s : Reason) → Fits P E S s → Fits P (E ++ e ∷ []) S s
    fit S (by_entry l r k) f = number_more k E (e ∷ []) l r f
    fit S (by_twins l r) f = f

    go : (S T : List Reason) → Derivation P E S T → Derivation P (E ++ e ∷ []) S T
    go S [] c = tt
    go S (s ∷ T) c = (fit S s c.0, c.1, go (s ∷ S) T c.2)

-- ONE MORE PICTURE
module _ (P : List Picture) (p : Picture) where
  long : length (P ++ p ∷ []) ≡ length P + 1
  long = length-append P (p ∷ [])

  on_more : (x : ℕ) → On P x → On (P ++ p ∷ []) x
  on_more x o = (o.0, omega (arith, o.1, long))

  at_more : (x : ℕ) → On P x → picture (P ++ p ∷ []) x ≡ picture P x
  at_more x o = get_or_append_left (blank ∷ P) (p ∷ []) blank x (omega (arith, o.1))

  pub up : (S : List Reason) (a b : ℕ) → JoinedBy P S a b → JoinedBy (P ++ p ∷ []) S a b
  up S a b l = (
    on_more a l.0,
    on_more b l.1,
    λ R g h. l.2 R (record {
      reflexive = λ x o. g.reflexive x (on_more x o);
      symmetric = λ x y o u. g.symmetric x y (on_more x o) (on_more y u);
      transitive = λ x y z o u v. g.transitive x y z (on_more x o) (on_more y u) (on_more z v);
    }) h,
  )

  -- the new picture taken for the first
  old : ℕ → ℕ
  old x = cond (leb x (length P)) x 1

  old_is : (x : ℕ) → On P x → old x ≡ x
  unfolding old
  old_is x o = cond-true _ _ _ (le-leb x (length P) o.1)

  old_on : 1 ≤ length P → (x : ℕ) → On (P ++ p ∷ []) x → On P (old x)
  unfolding old
  old_on n x o = go (dec_le x (length P))
    where
      go : Dec (x ≤ length P) → On P (cond (leb x (length P)) x 1)
      go (yes l) = subst (λ z. On P z) (sym (cond-true (leb x (length P)) x 1 (le-leb x (length P) l))) (o.0, l)
      go (no l) = subst (λ z. On P z) (sym (cond-false (leb x (length P)) x 1 (lt-leb x (length P) (omega arith)))) (omega arith, n)

  Ends : Reason → Type 0
  Ends s = On P (left s) × On P (right s)

  down : (S : List Reason) → All Ends S → (a b : ℕ) → On P a → On P b → JoinedBy (P ++ p ∷ []) S a b → JoinedBy P S a b
  unfolding Ends
  down S e a b oa ob l =
      (oa, ob, λ R g h. subst₂ (λ x y. Is R x y) (old_is a oa) (old_is b ob) (l.2 (λ x y. R (old x) (old y)) (pulled R g) (meets R S e h)))
    where
      n : 1 ≤ length P
      n = omega (arith, oa.0, oa.1)

      pulled : (R : ℕ → ℕ → Bool) → Equivalence P R → Equivalence (P ++ p ∷ []) (λ x y. R (old x) (old y))
      pulled R g =
          record {
            reflexive = λ x o. g.reflexive (old x) (old_on n x o);
            symmetric = λ x y o u. g.symmetric (old x) (old y) (old_on n x o) (old_on n y u);
            transitive = λ x y z o u v. g.transitive (old x) (old y) (old z) (old_on n x o) (old_on n y u) (old_on n z v);
          }

      meets : (R : ℕ → ℕ → Bool) (S : List Reason) → All Ends S → All (λ s. Is R (left s) (right s)) S → All (λ s. Is R (old (left s)) (old (right s))) S
      meets R [] e h = All-nil _
      meets R (s ∷ S) e h =
          let o = uncons Ends s S e in
          let k = uncons (λ s. Is R (left s) (right s)) s S h in
          All-cons (λ s. Is R (old (left s)) (old (right s))) s S (subst₂ (λ x y. Is R x y) (sym (old_is (left s) o.0.0)) (sym (old_is (right s) o.0.1)) k.0) (meets R S o.1 k.1)

  fit_up : (E : List Entry) (S : List Reason) (s : Reason) → Fits P E S s → Fits (P ++ p ∷ []) E S s
  fit_up E S (by_entry l r k) f = f
  fit_up E S (by_twins l r) f =
      let el = at_more l f.0 in
      let er = at_more r f.1 in (
        on_more l f.0,
        on_more r f.1,
        (
          ap (λ q. q.operation) el ∙ f.2.0 ∙ sym (ap (λ q. q.operation) er),
          subst₂ (λ xs ys. AllZip (JoinedBy (P ++ p ∷ []) S) xs ys) (sym (ap (λ q. q.inputs) el)) (sym (ap (λ q. q.inputs) er))
              (each_more (JoinedBy P S) (JoinedBy (P ++ p ∷ []) S) (up S) (inputs P l) (inputs P r) f.2.1),
        ),
      )

  chain_up : (E : List Entry) → Proper P E → (S T : List Reason) → All Ends S → Derivation P E S T → Derivation (P ++ p ∷ []) E S T
  unfolding Ends
  chain_up E w S [] e c = tt
  chain_up E w S (s ∷ T) e c =
      let o = ends_on P E w S s c.0 in
      (fit_up E S s c.0, (λ l. c.1 (down S e (left s) (right s) o.0 o.1 l)), chain_up E w (s ∷ S) T (All-cons Ends s S o e) c.2)

pub picture_more_law : PictureMoreLaw
picture_more_law P p E w J c = chain_up P p E w [] J (All-nil _) c

-- LABELS
pub tracks_law : TracksLaw
tracks_law P J f t x y l = eqb-true (f x) (f y) (l.2 (λ a b. eqb (f a) (f b)) same_label (All-weaker (λ s. On P (left s) × On P (right s) × (f (left s) ≡ f (right s))) (λ s. Is (λ a b. eqb (f a) (f b)) (left s) (right s)) (λ s h. eq-eqb _ _ h.2) J t.held))
  where
    same_label : Equivalence P (λ a b. eqb (f a) (f b))
    same_label =
        record {
          reflexive = λ a o. eq-eqb (f a) (f a) refl;
          symmetric = λ a b o u e. eq-eqb (f b) (f a) (sym (eqb-true (f a) (f b) e));
          transitive = λ a b c o u v e i. eq-eqb (f a) (f c) (eqb-true (f a) (f b) e ∙ eqb-true (f b) (f c) i);
        }

pub tracks_more_law : TracksMoreLaw
tracks_more_law P J s f g t ol or j = record { told = λ x y ox oy e. told x y ox oy (j.only x y ox.0 ox.1 oy.0 oy.1 e); held = held }
  where
    grow : (x y : ℕ) → JoinedBy P J x y → JoinedBy P (J ++ s ∷ []) x y
    grow = l_more P J (J ++ s ∷ []) (λ Q a. front Q J a)
      where
        front : (Q : Reason → Type 0) (J : List Reason) → All Q (J ++ s ∷ []) → All Q J
        front Q [] a = All-nil _
        front Q (k ∷ J) a = let h = uncons Q k (J ++ s ∷ []) a in All-cons Q k J h.0 (front Q J h.1)

    new : JoinedBy P (J ++ s ∷ []) (left s) (right s)
    new = (ol, or, λ R q h. last R J h)
      where
        last : (R : ℕ → ℕ → Bool) (J : List Reason) → All (λ s. Is R (left s) (right s)) (J ++ s ∷ []) → Is R (left s) (right s)
        last R [] h = All-head (λ s. Is R (left s) (right s)) s [] h
        last R (k ∷ J) h = last R J (All-tail (λ s. Is R (left s) (right s)) k (J ++ s ∷ []) h)

    told : (x y : ℕ) → On P x → On P y → (f x ≡ f y) ⊎ (((f x ≡ f (left s)) × (f y ≡ f (right s))) ⊎ ((f x ≡ f (right s)) × (f y ≡ f (left s)))) → JoinedBy P (J ++ s ∷ []) x y
    told x y ox oy (inl e) = grow x y (t.told x y ox oy e)
    told x y ox oy (inr (inl e)) =
        l_trans P (J ++ s ∷ []) x (right s) y (l_trans P (J ++ s ∷ []) x (left s) (right s) (grow x (left s) (t.told x (left s) ox ol e.0)) new)
        (grow (right s) y (t.told (right s) y or oy (sym e.1)))
    told x y ox oy (inr (inr e)) =
        l_trans P (J ++ s ∷ []) x (left s) y (l_trans P (J ++ s ∷ []) x (right s) (left s) (grow x (right s) (t.told x (right s) ox or e.0)) (l_sym P (J ++ s ∷ []) (left s) (right s) new))
        (grow (left s) y (t.told (left s) y ol oy (sym e.1)))

    held : All (λ k. On P (left k) × On P (right k) × (g (left k) ≡ g (right k))) (J ++ s ∷ [])
    held =
        All-push (λ k. On P (left k) × On P (right k) × (g (left k) ≡ g (right k))) J s
        (All-weaker (λ k. On P (left k) × On P (right k) × (f (left k) ≡ f (right k))) (λ k. On P (left k) × On P (right k) × (g (left k) ≡ g (right k))) (λ k h. (h.0, h.1, j.keeps (left k) (right k) h.0.0 h.0.1 h.1.0 h.1.1 h.2)) J t.held) (ol, or, j.meets)
