-- A slow closure that the checker computes, with a test of what it finds: a label for each picture. Assumes nothing.
use Rattle.std.proofs.Common.{◌≡◌, ℕ, zero, suc, ◌+◌, ◌<◌, ◌≤◌, Bool, true, false, cond, not, ◌&&◌, ◌||◌, eqb, leb, List, [], ◌∷◌, map, length, get_or, All, sym, refl, ap, ◌∙◌, subst, ap₂, ⊎_elim, arith}
use native.Mathlib.Decide.{ℕ_discrete}
use lib.ListN.{length-map}
use Rattle.std.specs.List.{AllZip}
use Rattle.std.proofs.lemmas.List.Elements.{All-weaker, All-cons, All-nil, All-tail}
use Rattle.std.proofs.lemmas.List.{get_or-map}
use Rattle.std.proofs.lemmas.Bool.{eq-eqb, eqb-true, ne_eqb, leb-true, and_parts, and_from, or_cases, both_ways, not-true}
use Rattle.theory.specs.Sheet.{Picture, Entry, same, differ, On, Ordered, Placed, Proper, operation, inputs, Keeps, Is, Twins, Congruence, Closure, Lowest}
use Rattle.theory.proofs.Closed.{c_refl, c_sym, c_trans, c_twins, c_keeps}
use Rattle.theory.proofs.Each.{uncons}

abbrev pub label : List ℕ → ℕ → ℕ
label L p = get_or (0 ∷ L) p 0

abbrev pub eqs : List ℕ → List ℕ → Bool
eqs [] [] = true
eqs [] (y ∷ ys) = false
eqs (x ∷ xs) [] = false
eqs (x ∷ xs) (y ∷ ys) = eqb x y && eqs xs ys

abbrev pub twin? : List Picture → List ℕ → ℕ → ℕ → Bool
twin? P L a b = eqb (operation P a) (operation P b) && eqs (map (label L) (inputs P a)) (map (label L) (inputs P b))

abbrev pub to : ℕ → ℕ → ℕ → ℕ
to u v x = cond (eqb x u) v x

-- all that have the label of a get that of b, or the other way round: the lower stays
abbrev pub merge : List ℕ → ℕ → ℕ → List ℕ
merge L a b = cond (leb (label L b) (label L a)) (map (to (label L a) (label L b)) L) (map (to (label L b) (label L a)) L)

abbrev pub entries : List Entry → List ℕ → List ℕ
entries [] L = L
entries (same a b ∷ F) L = entries F (merge L a b)
entries (differ a b ∷ F) L = entries F L

abbrev pub pair : List Picture → List ℕ → ℕ → ℕ → List ℕ
pair P L a b = cond (twin? P L a b) (merge L a b) L

abbrev pub inner : List Picture → ℕ → List ℕ → ℕ → List ℕ
inner P a L zero = L
inner P a L (suc b) = pair P (inner P a L b) a (suc b)

abbrev pub outer : List Picture → List ℕ → ℕ → List ℕ
outer P L zero = L
outer P L (suc a) = inner P (suc a) (outer P L a) a

abbrev pub rounds : List Picture → ℕ → List ℕ → List ℕ
rounds P zero L = L
rounds P (suc k) L = rounds P k (outer P L (length P))

abbrev pub fresh : ℕ → List Picture → List ℕ
fresh k [] = []
fresh k (p ∷ P) = k ∷ fresh (suc k) P

abbrev pub close : List Picture → List Entry → List ℕ
close P E = rounds P (length P) (entries E (fresh 1 P))

-- THE TEST
abbrev pub upto : (ℕ → Bool) → ℕ → Bool
upto f zero = true
upto f (suc n) = f (suc n) && upto f n

abbrev pub each? : {X : Type 0} → (X → Bool) → List X → Bool
each? f [] = true
each? f (x ∷ xs) = f x && each? f xs

abbrev pub on? : List Picture → ℕ → Bool
on? P p = leb 1 p && leb p (length P)

abbrev pub placed? : List Picture → Entry → Bool
placed? P (same a b) = on? P a && on? P b
placed? P (differ a b) = on? P a && on? P b

abbrev pub ordered? : List Picture → ℕ → Bool
ordered? P p = leb (length (inputs P p)) 4 && each? (λ i. leb 1 i && leb (suc i) p) (inputs P p)

abbrev pub kept? : List ℕ → Entry → Bool
kept? L (same a b) = eqb (label L a) (label L b)
kept? L (differ a b) = true

abbrev pub low? : List ℕ → ℕ → Bool
low? L p = leb 1 (label L p) && (leb (label L p) p && eqb (label L (label L p)) (label L p))

abbrev pub twins? : List Picture → List ℕ → ℕ → ℕ → Bool
twins? P L a b = not (twin? P L a b) || eqb (label L a) (label L b)

abbrev pub proper? : List Picture → List Entry → Bool
proper? P E = upto (ordered? P) (length P) && each? (placed? P) E

abbrev pub closed? : List Picture → List Entry → List ℕ → Bool
closed? P E L = each? (kept? L) E && (upto (low? L) (length P) && upto (λ a. upto (twins? P L a) (length P)) (length P))

-- FROM THE TEST
pub upto_at : (f : ℕ → Bool) (n : ℕ) → upto f n ≡ true → (p : ℕ) → 1 ≤ p → p ≤ n → f p ≡ true
upto_at f zero t p a b = absurd (omega arith)
upto_at f (suc n) t p a b = go (ℕ_discrete p (suc n)) (λ l. upto_at f n (and_parts (f (suc n)) (upto f n) t).1 p a l)
  where
    less : ¬ (p ≡ suc n) → p ≤ n
    less h = omega arith

    go : Dec (p ≡ suc n) → (p ≤ n → f p ≡ true) → f p ≡ true
    go (yes e) k = subst (λ q. f q ≡ true) (sym e) (and_parts (f (suc n)) (upto f n) t).0
    go (no h) k = k (less h)

pub each_at : {X : Type 0} (f : X → Bool) (Q : X → Type 0) → ((x : X) → f x ≡ true → Q x) → (xs : List X) → each? f xs ≡ true → All Q xs
each_at f Q k [] t = All-nil _
each_at f Q k (x ∷ xs) t = All-cons Q x xs (k x (and_parts _ _ t).0) (each_at f Q k xs (and_parts _ _ t).1)

pub eqs_eq : (xs ys : List ℕ) → eqs xs ys ≡ true → xs ≡ ys
eqs_eq [] [] t = refl
eqs_eq [] (y ∷ ys) t = absurd (both_ways false refl t)
eqs_eq (x ∷ xs) [] t = absurd (both_ways false refl t)
eqs_eq (x ∷ xs) (y ∷ ys) t = ap₂ ◌∷◌ (eqb-true x y (and_parts _ _ t).0) (eqs_eq xs ys (and_parts _ _ t).1)

pub on_on : (P : List Picture) (p : ℕ) → on? P p ≡ true → On P p
on_on P p t = (leb-true _ _ (and_parts _ _ t).0, leb-true _ _ (and_parts _ _ t).1)

earlier_at : (p i : ℕ) → (leb 1 i && leb (suc i) p) ≡ true → (1 ≤ i) × (i < p)
earlier_at p i h = let k = and_parts (leb 1 i) (leb (suc i) p) h in (leb-true 1 i k.0, leb-true (suc i) p k.1)

pub ordered_at : (P : List Picture) (p : ℕ) → ordered? P p ≡ true → (length (inputs P p) ≤ 4) × All (λ i. (1 ≤ i) × (i < p)) (inputs P p)
ordered_at P p h =
    let k = and_parts (leb (length (inputs P p)) 4) (each? (λ i. leb 1 i && leb (suc i) p) (inputs P p)) h in
    (leb-true _ 4 k.0, each_at (λ i. leb 1 i && leb (suc i) p) (λ i. (1 ≤ i) × (i < p)) (earlier_at p) (inputs P p) k.1)

pub placed_from : (P : List Picture) (e : Entry) → placed? P e ≡ true → Placed P e
placed_from P (same a b) h = (on_on P a (and_parts _ _ h).0, on_on P b (and_parts _ _ h).1)
placed_from P (differ a b) h = (on_on P a (and_parts _ _ h).0, on_on P b (and_parts _ _ h).1)

pub proper_from : (P : List Picture) (E : List Entry) → proper? P E ≡ true → Proper P E
proper_from P E t = (ord, each_at (placed? P) (Placed P) (placed_from P) E (and_parts _ _ t).1)
  where
    ord : Ordered P
    ord p on = ordered_at P p (upto_at (ordered? P) (length P) (and_parts (upto (ordered? P) (length P)) (each? (placed? P) E) t).0 p on.0 on.1)

pub length-fresh : (k : ℕ) (P : List Picture) → length (fresh k P) ≡ length P
length-fresh k [] = refl
length-fresh k (p ∷ P) = ap suc (length-fresh (suc k) P)

fresh_at : (k : ℕ) (P : List Picture) (i : ℕ) → i < length P → get_or (fresh k P) i 0 ≡ k + i
fresh_at k [] i h = absurd (omega arith)
fresh_at k (p ∷ P) zero h = omega arith
fresh_at k (p ∷ P) (suc i) h = fresh_at (suc k) P i (omega arith) ∙ omega arith

pub label_fresh : (P : List Picture) (p : ℕ) → On P p → label (fresh 1 P) p ≡ p
label_fresh P zero on = absurd (omega arith)
label_fresh P (suc k) on = fresh_at 1 P k (omega arith) ∙ omega arith

module _ (P : List Picture) (E : List Entry) where
  -- pictures with one label are in one class
  abbrev pub Good : List ℕ → Type 0
  Good L = (length L ≡ length P) × ((a b : ℕ) → On P a → On P b → label L a ≡ label L b → Closure P E a b)

  pub label_map : (f : ℕ → ℕ) (L : List ℕ) (p : ℕ) → length L ≡ length P → On P p → label (map f L) p ≡ f (label L p)
  label_map f L zero e on = absurd (omega arith)
  label_map f L (suc k) e on = get_or-map f L k 0 0 (omega arith)

  pub good_to : (L : List ℕ) (a b : ℕ) → Good L → Closure P E a b → Good (map (to (label L a) (label L b)) L)
  good_to L a b g c = (
    length-map L (to u v) ∙ g.0,
    λ p q op oq e. go p q op oq (eqb (label L p) u) (eqb (label L q) u) refl refl
        (sym (label_map (to u v) L p g.0 op) ∙ e ∙ label_map (to u v) L q g.0 oq),
  )
    where
      u : ℕ
      u = label L a

      v : ℕ
      v = label L b

      go : (p q : ℕ) → On P p → On P q → (s t : Bool) → eqb (label L p) u ≡ s → eqb (label L q) u ≡ t → cond s v (label L p) ≡ cond t v (label L q) → Closure P E p q
      go p q op oq true true h k e = g.1 p q op oq (eqb-true _ _ h ∙ sym (eqb-true _ _ k))
      go p q op oq true false h k e =
          c_trans P E p a q (g.1 p a op c.0 (eqb-true _ _ h)) (c_trans P E a b q c (g.1 b q c.1 oq e))
      go p q op oq false true h k e =
          c_trans P E p b q (g.1 p b op c.1 e) (c_trans P E b a q (c_sym P E a b c) (g.1 a q c.0 oq (sym (eqb-true _ _ k))))
      go p q op oq false false h k e = g.1 p q op oq e

  good_merge : (L : List ℕ) (a b : ℕ) → Good L → Closure P E a b → Good (merge L a b)
  good_merge L a b g c = go (leb (label L b) (label L a))
    where
      go : (t : Bool) → Good (cond t (map (to (label L a) (label L b)) L) (map (to (label L b) (label L a)) L))
      go true = good_to L a b g c
      go false = good_to L b a g (c_sym P E a b c)

  good_entries : (F : List Entry) (L : List ℕ) → All (Keeps (Closure P E)) F → Good L → Good (entries F L)
  good_entries [] L k g = g
  good_entries (same a b ∷ F) L k g = let h = uncons (Keeps (Closure P E)) (same a b) F k in good_entries F (merge L a b) h.1 (good_merge L a b g h.0)
  good_entries (differ a b ∷ F) L k g = good_entries F L (All-tail (Keeps (Closure P E)) (differ a b) F k) g

  pub same_each : (L : List ℕ) → Good L → (xs ys : List ℕ) → All (On P) xs → All (On P) ys → eqs (map (label L) xs) (map (label L) ys) ≡ true → AllZip (Closure P E) xs ys
  same_each L g [] [] h k e = tt
  same_each L g [] (y ∷ ys) h k e = both_ways false refl e
  same_each L g (x ∷ xs) [] h k e = both_ways false refl e
  same_each L g (x ∷ xs) (y ∷ ys) h k e =
      let t = and_parts (eqb (label L x) (label L y)) (eqs (map (label L) xs) (map (label L) ys)) e in
      let u = uncons (On P) x xs h in
      let v = uncons (On P) y ys k in
      (g.1 x y u.0 v.0 (eqb-true _ _ t.0), same_each L g xs ys u.1 v.1 t.1)

  module _ (w : Proper P E) where
    pub inputs_on : (p : ℕ) → On P p → All (On P) (inputs P p)
    inputs_on p on = All-weaker (λ i. (1 ≤ i) × (i < p)) (On P) (λ i h. (h.0, omega arith)) (inputs P p) (w.0 p on).1

    good-pair : (L : List ℕ) (a b : ℕ) → Good L → On P a → On P b → Good (pair P L a b)
    good-pair L a b g oa ob = go (twin? P L a b) refl
      where
        go : (t : Bool) → twin? P L a b ≡ t → Good (cond t (merge L a b) L)
        go true e =
            let t = and_parts (eqb (operation P a) (operation P b)) (eqs (map (label L) (inputs P a)) (map (label L) (inputs P b))) e in
            good_merge L a b g (c_twins P E a b oa ob
            (eqb-true _ _ t.0, same_each L g (inputs P a) (inputs P b) (inputs_on a oa) (inputs_on b ob) t.1))
        go false e = g

    good-inner : (a : ℕ) → On P a → (L : List ℕ) → Good L → (b : ℕ) → b ≤ length P → Good (inner P a L b)
    good-inner a oa L g zero h = g
    good-inner a oa L g (suc b) h = good-pair (inner P a L b) a (suc b) (good-inner a oa L g b (omega arith)) oa (omega arith, h)

    good-outer : (L : List ℕ) → Good L → (a : ℕ) → a ≤ length P → Good (outer P L a)
    good-outer L g zero h = g
    good-outer L g (suc a) h = good-inner (suc a) (omega arith, h) (outer P L a) (good-outer L g a (omega arith)) a (omega arith)

    good-rounds : (k : ℕ) (L : List ℕ) → Good L → Good (rounds P k L)
    good-rounds zero L g = g
    good-rounds (suc k) L g = good-rounds k (outer P L (length P)) (good-outer L g (length P) (omega arith))

    pub good-fresh : Good (fresh 1 P)
    good-fresh = (length-fresh 1 P, λ a b oa ob e. subst (λ q. Closure P E a q) (own a oa ∙ e' a b oa ob e) (c_refl P E a oa))
      where
        own : (a : ℕ) → On P a → a ≡ a
        own a oa = refl

        e' : (a b : ℕ) → On P a → On P b → label (fresh 1 P) a ≡ label (fresh 1 P) b → a ≡ b
        e' a b oa ob e = sym (label_fresh P a oa) ∙ e ∙ label_fresh P b ob

    pub good-close : Good (close P E)
    good-close = good-rounds (length P) (entries E (fresh 1 P)) (good_entries E (fresh 1 P) (c_keeps P E w.1) good-fresh)

    module _ (L : List ℕ) (g : Good L) (t : closed? P E L ≡ true) where
      alike : ℕ → ℕ → Bool
      alike a b = eqb (label L a) (label L b)

      is-each : (xs ys : List ℕ) → AllZip (Is alike) xs ys → eqs (map (label L) xs) (map (label L) ys) ≡ true
      unfolding alike
      is-each [] [] h = refl
      is-each [] (y ∷ ys) h = absurd h
      is-each (x ∷ xs) [] h = absurd h
      is-each (x ∷ xs) (y ∷ ys) h = and_from _ _ h.0 (is-each xs ys h.1)

      parts : (each? (kept? L) E ≡ true) × (upto (low? L) (length P) ≡ true) × (upto (λ a. upto (twins? P L a) (length P)) (length P) ≡ true)
      parts =
          let h = and_parts _ _ t in
          let k = and_parts _ _ h.1 in
          (h.0, k.0, k.1)

      congruence : Congruence P E alike
      unfolding alike
      congruence =
          record {
            reflexive = λ a _. eq-eqb _ _ refl;
            symmetric = λ a b _ _ h. eq-eqb _ _ (sym (eqb-true _ _ h));
            transitive = λ a b c _ _ _ h k. eq-eqb _ _ (eqb-true _ _ h ∙ eqb-true _ _ k);
            keeps = each_at (kept? L) (Keeps (Is alike)) keep E parts.0;
            twins = twin;
          }
        where
          keep : (e : Entry) → kept? L e ≡ true → Keeps (Is alike) e
          keep (same a b) h = h
          keep (differ a b) h = tt

          twin : (a b : ℕ) → On P a → On P b → Twins P (Is alike) a b → Is alike a b
          twin a b oa ob tw = ⊎_elim (λ n. absurd (both_ways (twin? P L a b) (not-true _ n) yes-twin)) (λ k. k) (or_cases _ _ at)
            where
              at : twins? P L a b ≡ true
              at = upto_at (twins? P L a) (length P) (upto_at (λ x. upto (twins? P L x) (length P)) (length P) parts.2 a oa.0 oa.1) b ob.0 ob.1

              yes-twin : twin? P L a b ≡ true
              yes-twin = and_from _ _ (eq-eqb _ _ tw.0) (is-each (inputs P a) (inputs P b) tw.1)

      pub lowest-label : (p : ℕ) → On P p → Lowest P E p (label L p)
      unfolding alike
      lowest-label p on =
          let h = and_parts (leb 1 (label L p)) (leb (label L p) p && eqb (label L (label L p)) (label L p)) (upto_at (low? L) (length P) parts.1 p on.0 on.1) in
          let k = and_parts (leb (label L p) p) (eqb (label L (label L p)) (label L p)) h.1 in
          let below : label L p ≤ p = leb-true _ _ k.0 in
          let there : On P (label L p) = (leb-true 1 (label L p) h.0, omega arith) in
          (g.1 p (label L p) on there (sym (eqb-true _ _ k.1)), λ q c. least q (eqb-true _ _ (c.2 alike congruence)) c.1)
        where
          least : (q : ℕ) → label L p ≡ label L q → On P q → label L p ≤ q
          least q e oq =
              let h = and_parts (leb 1 (label L q)) (leb (label L q) q && eqb (label L (label L q)) (label L q)) (upto_at (low? L) (length P) parts.1 q oq.0 oq.1) in
              let k = and_parts (leb (label L q) q) (eqb (label L (label L q)) (label L q)) h.1 in
              let below : label L q ≤ q = leb-true _ _ k.0 in
              omega arith

pub some_upto : (f : ℕ → Bool) (n : ℕ) → upto f n ≡ false → (p : ℕ) × (1 ≤ p) × (p ≤ n) × (f p ≡ false)
some_upto f zero t = absurd (both_ways true t refl)
some_upto f (suc n) t = go (f (suc n)) refl (λ h. some_upto f n h)
  where
    go : (b : Bool) → f (suc n) ≡ b → (upto f n ≡ false → (p : ℕ) × (1 ≤ p) × (p ≤ n) × (f p ≡ false)) → (p : ℕ) × (1 ≤ p) × (p ≤ suc n) × (f p ≡ false)
    go false e k = (suc n, omega arith, omega arith, e)
    go true e k =
        let r = k (subst (λ b. (b && upto f n) ≡ false) e t) in
        (r.0, r.1, omega (arith, r.2), r.3)

pub to_hit : (u v x : ℕ) → x ≡ u → to u v x ≡ v
to_hit u v x e = ap (λ b. cond b v x) (eq-eqb x u e)

pub to_miss : (u v x : ℕ) → (x ≡ u → ⊥) → to u v x ≡ x
to_miss u v x e = ap (λ b. cond b v x) (ne_eqb x u e)
