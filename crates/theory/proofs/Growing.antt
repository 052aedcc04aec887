-- One picture more: the earlier pictures, their values, the entries and the closure on them stay. Assumes nothing.
use Rattle.std.proofs.Common.{◌≡◌, ℕ, zero, suc, ◌<◌, ◌≤◌, Bool, eqb, List, [], ◌∷◌, ◌++◌, map, length, get_or, All, sym, refl, ap, ◌∙◌, subst, arith, length-append}
use native.Mathlib.Decide.{ℕ_discrete, dec_le}
use lib.ListN.{get_or-append}
use Rattle.std.specs.List.{AllZip}
use Rattle.std.proofs.lemmas.List.Elements.{All-weaker, All-cons, All-nil, All-tail}
use Rattle.std.proofs.lemmas.Bool.{eq-eqb, eqb-true}
use Rattle.theory.specs.Sheet.{Picture, Entry, same, differ, Reading, On, Ordered, Placed, Proper, picture, blank, value_to, operation, inputs, Holds, Is, Keeps, Twins, Congruence, Closure, Lowest}
use Rattle.theory.specs.Laws.{AddLaw}
use Rattle.theory.proofs.Closed.{c_refl, c_sym, c_trans, c_twins, c_keeps, lowest_same, lowest_joins}
use Rattle.theory.proofs.Laws.{dec_on}
use Rattle.theory.proofs.Settled.{known_all}
use Rattle.theory.proofs.Values.{map_same}
use Rattle.theory.proofs.Each.{uncons, dec_zip}

at_end : (P : List Picture) (x : Picture) → get_or (P ++ (x ∷ [])) (length P) blank ≡ x
at_end [] x = refl
at_end (y ∷ P) x = at_end P x

module _ (P : List Picture) (x : Picture) where
  abbrev pub P' : List Picture
  P' = P ++ (x ∷ [])

  pub longer : length P' ≡ suc (length P)
  longer = length-append P (x ∷ []) ∙ omega arith

  pub on_more : (p : ℕ) → On P p → On P' p
  on_more p on = (on.0, omega (arith, longer, on.1))

  pub placed_more : (e : Entry) → Placed P e → Placed P' e
  placed_more (same a b) w = (on_more a w.0, on_more b w.1)
  placed_more (differ a b) w = (on_more a w.0, on_more b w.1)

  pub kept_picture : (p : ℕ) → p ≤ length P → picture P' p ≡ picture P p
  kept_picture p h = get_or-append (blank ∷ P) (x ∷ []) blank p (omega arith)

  pub new_picture : (p : ℕ) → p ≡ suc (length P) → picture P' p ≡ x
  new_picture p e = ap (picture P') e ∙ at_end (blank ∷ P) x

  pub ordered_more : Ordered P → (length x.inputs ≤ 4) → All (On P) x.inputs → Ordered P'
  ordered_more o few ins p on = go (dec_le p (length P))
    where
      Fine : ℕ → Picture → Type 0
      Fine q y = (length y.inputs ≤ 4) × All (λ i. (1 ≤ i) × (i < q)) y.inputs

      last : ¬ (p ≤ length P) → p ≡ suc (length P)
      last n = omega (arith, longer, on.1)

      go : Dec (p ≤ length P) → Fine p (picture P' p)
      go (yes h) = subst (λ y. Fine p y) (sym (kept_picture p h)) (o p (on.0, h))
      go (no n) = subst (λ y. Fine p y) (sym (new_picture p (last n))) (few, All-weaker (On P) (λ i. (1 ≤ i) × (i < p)) (λ i h. (h.0, omega (arith, last n, h.1))) x.inputs ins)

  pub stable : Ordered P → (r : Reading) (d p : ℕ) → On P p → value_to r P' d p ≡ value_to r P d p
  stable o r zero p on = refl
  stable o r (suc d) p on =
      ap (λ y. r y.operation (map (value_to r P' d) y.inputs)) (kept_picture p on.1)
      ∙ ap (r (operation P p)) (map_same (value_to r P' d) (value_to r P d) (inputs P p)
      (All-weaker (λ i. (1 ≤ i) × (i < p)) (λ i. value_to r P' d i ≡ value_to r P d i) (λ i h. stable o r d i (h.0, omega (arith, h.1, on.1))) (inputs P p) (o p on).1))

  pub holds_more : Ordered P → (r : Reading) (F : List Entry) → All (Placed P) F → All (Holds r P) F → All (Holds r P') F
  holds_more o r [] w h = All-nil _
  holds_more o r (same a b ∷ F) w h =
      let v = uncons (Placed P) (same a b) F w in
      let k = uncons (Holds r P) (same a b) F h in
      All-cons (Holds r P') (same a b) F (stable o r a a v.0.0 ∙ k.0 ∙ sym (stable o r b b v.0.1)) (holds_more o r F v.1 k.1)
  holds_more o r (differ a b ∷ F) w h =
      let v = uncons (Placed P) (differ a b) F w in
      let k = uncons (Holds r P) (differ a b) F h in
      All-cons (Holds r P') (differ a b) F (λ e. k.0 (sym (stable o r a a v.0.0) ∙ e ∙ stable o r b b v.0.1)) (holds_more o r F v.1 k.1)

-- THE CLOSURE ON THE EARLIER PICTURES
module _ (P : List Picture) (x : Picture) (E : List Entry) (w : Proper P E) (ins : All (On P) x.inputs) where
  kept : (p : ℕ) → On P p → picture (P ++ (x ∷ [])) p ≡ picture P p
  kept p on = kept_picture P x p on.1

  -- related inputs, read on either list
  each_weaker : (R Q : ℕ → ℕ → Type 0) → ((a b : ℕ) → R a b → Q a b) → (xs ys : List ℕ) → AllZip R xs ys → AllZip Q xs ys
  each_weaker R Q f [] [] e = tt
  each_weaker R Q f [] (y ∷ ys) e = absurd e
  each_weaker R Q f (a ∷ xs) [] e = absurd e
  each_weaker R Q f (a ∷ xs) (y ∷ ys) e = (f a y e.0, each_weaker R Q f xs ys e.1)

  -- a congruence of the longer list is one of the shorter
  restricted : (R : ℕ → ℕ → Bool) → Congruence (P ++ (x ∷ [])) E R → Congruence P E R
  restricted R c =
      record {
        reflexive = λ a oa. c.reflexive a (on_more P x a oa);
        symmetric = λ a b oa ob. c.symmetric a b (on_more P x a oa) (on_more P x b ob);
        transitive = λ a b d oa ob od. c.transitive a b d (on_more P x a oa) (on_more P x b ob) (on_more P x d od);
        keeps = c.keeps;
        twins = λ a b oa ob t.
            c.twins a b (on_more P x a oa) (on_more P x b ob)
            (subst (λ y. (y.operation ≡ operation (P ++ (x ∷ [])) b) × AllZip (Is R) y.inputs (inputs (P ++ (x ∷ [])) b)) (sym (kept a oa))
            (subst (λ y. (operation P a ≡ y.operation) × AllZip (Is R) (inputs P a) y.inputs) (sym (kept b ob)) t));
      }

  low : (p : ℕ) (on : On P p) → (m : ℕ) × Lowest P E p m
  low p on = known_all P E w p on

  one_low : (p : ℕ) (u v : On P p) → (low p u).0 ≡ (low p v).0
  one_low p u v = lowest_same P E p p _ _ (c_refl P E p u) (low p u).1 (low p v).1

  dec_closure : (a b : ℕ) → Dec (Closure P E a b)
  dec_closure a b = go (dec_on P a) (dec_on P b)
    where
      by : (oa : On P a) (ob : On P b) → Dec ((low a oa).0 ≡ (low b ob).0) → Dec (Closure P E a b)
      by oa ob (yes e) = yes (lowest_joins P E a b (low a oa).0 (low a oa).1 (subst (λ m. Lowest P E b m) (sym e) (low b ob).1))
      by oa ob (no n) = no (λ c. n (lowest_same P E a b _ _ c (low a oa).1 (low b ob).1))

      go : Dec (On P a) → Dec (On P b) → Dec (Closure P E a b)
      go (yes oa) (yes ob) = by oa ob (ℕ_discrete (low a oa).0 (low b ob).0)
      go (yes oa) (no n) = no (λ c. n c.1)
      go (no n) d = no (λ c. n c.0)

  -- t is a twin of the new picture
  abbrev Twin : ℕ → Type 0
  Twin t = (x.operation ≡ operation P t) × AllZip (Closure P E) x.inputs (inputs P t)

  dec_twin : (t : ℕ) → Dec (Twin t)
  dec_twin t = go (ℕ_discrete x.operation (operation P t)) (dec_zip (Closure P E) dec_closure x.inputs (inputs P t))
    where
      go : Dec (x.operation ≡ operation P t) → Dec (AllZip (Closure P E) x.inputs (inputs P t)) → Dec (Twin t)
      go (yes a) (yes b) = yes (a, b)
      go (yes a) (no b) = no (λ h. b h.1)
      go (no a) d = no (λ h. a h.0)

  abbrev SomeTwin : ℕ → Type 0
  SomeTwin m = (t : ℕ) × (1 ≤ t) × (t ≤ m) × Twin t

  search_twin : (m : ℕ) → Dec (SomeTwin m)
  search_twin zero = no (λ h. omega (arith, h.1, h.2))
  search_twin (suc m) = go (dec_twin (suc m)) (search_twin m)
    where
      go : Dec (Twin (suc m)) → Dec (SomeTwin m) → Dec (SomeTwin (suc m))
      go (yes t) d = yes (suc m, omega arith, omega arith, t)
      go (no n) (yes s) = yes (s.0, s.1, omega (arith, s.2), s.3)
      go (no n) (no k) = no (λ h. elim (ℕ_discrete h.0 (suc m)) [ yes e ↦ n (subst Twin e h.3) | no o ↦ k (h.0, h.1, omega (arith, h.2, o), h.3) ])

  abbrev label_new : Dec (SomeTwin (length P)) → ℕ
  label_new (yes s) = (low s.0 (s.1, s.2)).0
  label_new (no n) = suc (length P)

  abbrev label_by : (p : ℕ) → Dec (On P p) → ℕ
  label_by p (yes on) = (low p on).0
  label_by p (no n) = label_new (search_twin (length P))

  abbrev label : ℕ → ℕ
  label p = label_by p (dec_on P p)

  by_old : (p : ℕ) (on : On P p) (d : Dec (On P p)) → label_by p d ≡ (low p on).0
  by_old p on (yes u) = one_low p u on
  by_old p on (no n) = absurd (n on)

  by_other : (p : ℕ) → ¬ On P p → (d : Dec (On P p)) → label_by p d ≡ label_new (search_twin (length P))
  by_other p n (yes u) = absurd (n u)
  by_other p n (no k) = refl

  label_old : (p : ℕ) (on : On P p) → label p ≡ (low p on).0
  label_old p on = by_old p on (dec_on P p)

  -- labels of earlier pictures tell the closure
  told : (a b : ℕ) → On P a → On P b → label a ≡ label b → Closure P E a b
  told a b oa ob e =
      lowest_joins P E a b (low a oa).0 (low a oa).1 (subst (λ m. Lowest P E b m) (sym (sym (label_old a oa) ∙ (e ∙ label_old b ob))) (low b ob).1)

  tell : (a b : ℕ) → Closure P E a b → label a ≡ label b
  tell a b c = label_old a c.0 ∙ (lowest_same P E a b _ _ c (low a c.0).1 (low b c.1).1 ∙ sym (label_old b c.1))

  -- a picture that is no earlier one is the new one, and has the label of each of its twins
  new_label : (p b : ℕ) → ¬ On P p → On P b → Twin b → label p ≡ label b
  new_label p b n ob t = by_other p n (dec_on P p) ∙ go (search_twin (length P))
    where
      go : (d : Dec (SomeTwin (length P))) → label_new d ≡ label b
      go (yes s) =
          let u : On P s.0 = (s.1, s.2) in
          sym (label_old s.0 u)
          ∙ tell s.0 b (c_twins P E s.0 b u ob (sym s.3.0 ∙ t.0, both x.inputs (inputs P s.0) (inputs P b) s.3.1 t.1))
        where
          both : (xs ys zs : List ℕ) → AllZip (Closure P E) xs ys → AllZip (Closure P E) xs zs → AllZip (Closure P E) ys zs
          both [] [] [] e f = tt
          both [] [] (z ∷ zs) e f = absurd f
          both [] (y ∷ ys) zs e f = absurd e
          both (a ∷ xs) [] zs e f = absurd e
          both (a ∷ xs) (y ∷ ys) [] e f = absurd f
          both (a ∷ xs) (y ∷ ys) (z ∷ zs) e f = (c_trans P E y a z (c_sym P E a y e.0) f.0, both xs ys zs e.1 f.1)
      go (no k) = absurd (k (b, ob.0, ob.1, t))

  abbrev by_label : ℕ → ℕ → Bool
  by_label a b = eqb (label a) (label b)

  -- inputs with equal labels are in the closure
  each_told : (xs ys : List ℕ) → All (On P) xs → All (On P) ys → AllZip (Is by_label) xs ys → AllZip (Closure P E) xs ys
  each_told [] [] u v e = tt
  each_told [] (y ∷ ys) u v e = absurd e
  each_told (a ∷ xs) [] u v e = absurd e
  each_told (a ∷ xs) (y ∷ ys) u v e =
      let p = uncons (On P) a xs u in
      let q = uncons (On P) y ys v in
      (told a y p.0 q.0 (eqb-true _ _ e.0), each_told xs ys p.1 q.1 e.1)

  ins_on : (p : ℕ) → On P p → All (On P) (inputs P p)
  ins_on p on = All-weaker (λ i. (1 ≤ i) × (i < p)) (On P) (λ i h. (h.0, omega (arith, h.1, on.1))) (inputs P p) (w.0 p on).1

  label_keeps : (F : List Entry) → All (Keeps (Closure P E)) F → All (Keeps (Is by_label)) F
  label_keeps [] k = All-nil _
  label_keeps (same a b ∷ F) k = let h = uncons (Keeps (Closure P E)) (same a b) F k in All-cons (Keeps (Is by_label)) (same a b) F (eq-eqb _ _ (tell a b h.0)) (label_keeps F h.1)
  label_keeps (differ a b ∷ F) k = All-cons (Keeps (Is by_label)) (differ a b) F tt (label_keeps F (All-tail (Keeps (Closure P E)) (differ a b) F k))

  extended : Congruence (P ++ (x ∷ [])) E by_label
  extended =
      record {
        reflexive = λ a oa. eq-eqb (label a) (label a) refl;
        symmetric = λ a b oa ob e. eq-eqb _ _ (sym (eqb-true _ _ e));
        transitive = λ a b d oa ob od e f. eq-eqb _ _ (eqb-true _ _ e ∙ eqb-true _ _ f);
        keeps = label_keeps E (c_keeps P E w.1);
        twins = λ a b oa ob t. eq-eqb _ _ (twin a b oa ob t (dec_on P a) (dec_on P b));
      }
    where
      last : (p : ℕ) → On (P ++ (x ∷ [])) p → ¬ On P p → p ≡ suc (length P)
      last p on n = elim (dec_le p (length P)) [ yes h ↦ absurd (n (on.0, h)) | no h ↦ omega (arith, longer P x, on.1, h) ]

      flip : (xs ys : List ℕ) → AllZip (Is by_label) xs ys → AllZip (Is by_label) ys xs
      flip [] [] e = tt
      flip [] (y ∷ ys) e = absurd e
      flip (a ∷ xs) [] e = absurd e
      flip (a ∷ xs) (y ∷ ys) e = (eq-eqb _ _ (sym (eqb-true _ _ e.0)), flip xs ys e.1)

      mixed : (a b : ℕ) → ¬ On P a → On (P ++ (x ∷ [])) a → On P b → Twins (P ++ (x ∷ [])) (Is by_label) a b → label a ≡ label b
      mixed a b n oa ob t =
          let u = subst (λ y. (y.operation ≡ operation (P ++ (x ∷ [])) b) × AllZip (Is by_label) y.inputs (inputs (P ++ (x ∷ [])) b)) (new_picture P x a (last a oa n)) t in
          let v = subst (λ y. (x.operation ≡ y.operation) × AllZip (Is by_label) x.inputs y.inputs) (kept b ob) u in
          new_label a b n ob (v.0, each_told x.inputs (inputs P b) ins (ins_on b ob) v.1)

      twin : (a b : ℕ) → On (P ++ (x ∷ [])) a → On (P ++ (x ∷ [])) b → Twins (P ++ (x ∷ [])) (Is by_label) a b → Dec (On P a) → Dec (On P b) → label a ≡ label b
      twin a b oa ob t (yes u) (yes v) =
          let p = subst (λ y. (y.operation ≡ operation (P ++ (x ∷ [])) b) × AllZip (Is by_label) y.inputs (inputs (P ++ (x ∷ [])) b)) (kept a u) t in
          let q = subst (λ y. (operation P a ≡ y.operation) × AllZip (Is by_label) (inputs P a) y.inputs) (kept b v) p in
          tell a b (c_twins P E a b u v (q.0, each_told (inputs P a) (inputs P b) (ins_on a u) (ins_on b v) q.1))
      twin a b oa ob t (no n) (yes v) = mixed a b n oa v t
      twin a b oa ob t (yes u) (no n) = sym (mixed b a n ob u (sym t.0, flip (inputs (P ++ (x ∷ [])) a) (inputs (P ++ (x ∷ [])) b) t.1))
      twin a b oa ob t (no n) (no m) = ap label (last a oa n ∙ sym (last b ob m))

pub add_law : AddLaw
add_law P x E w ins a b oa ob = (
  (λ c. (on_more P x a oa, on_more P x b ob, λ R g. c.2 R (restricted P x E w ins R g))),
  (λ c. told P x E w ins a b oa ob (eqb-true _ _ (c.2 (by_label P x E w ins) (extended P x E w ins)))),
)
