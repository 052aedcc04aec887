-- The value of a picture does not depend on how deep one looks, and so meets its law; a satisfying reading's values are a congruence. Assumes nothing.
use Rattle.std.proofs.Common.{◌≡◌, ℕ, zero, suc, ◌<◌, ◌≤◌, Bool, eqb, List, [], ◌∷◌, map, length, All, sym, refl, ap, ◌∙◌, ap₂, arith}
use lib.ListN.{length-map}
use Rattle.std.specs.List.{AllZip}
use Rattle.std.proofs.lemmas.List.Elements.{All-weaker}
use Rattle.std.proofs.lemmas.Bool.{eq-eqb, eqb-true}
use Rattle.theory.specs.Sheet.{Picture, Entry, same, differ, Reading, On, Ordered, value, value_to, operation, inputs, Holds, Satisfies, Keeps, Is, Twins, Congruence, Closure}
use Rattle.theory.specs.Statements.{ValueLaw, ShortLaw}
use Rattle.theory.proofs.Each.{uncons}

pub map_same : (f g : ℕ → ℕ) (xs : List ℕ) → All (λ i. f i ≡ g i) xs → map f xs ≡ map g xs
map_same f g [] h = refl
map_same f g (x ∷ xs) h = let k = uncons (λ i. f i ≡ g i) x xs h in ap₂ ◌∷◌ k.0 (map_same f g xs k.1)

map_each : (f : ℕ → ℕ) (R : ℕ → ℕ → Type 0) (xs ys : List ℕ) → ((x y : ℕ) → R x y → f x ≡ f y) → AllZip R xs ys → map f xs ≡ map f ys
map_each f R [] [] k h = refl
map_each f R [] (y ∷ ys) k h = absurd h
map_each f R (x ∷ xs) [] k h = absurd h
map_each f R (x ∷ xs) (y ∷ ys) k h = ap₂ ◌∷◌ (k x y h.0) (map_each f R xs ys k h.1)

depth : (P : List Picture) → Ordered P → (r : Reading) (d e p : ℕ) → On P p → p ≤ d → p ≤ e → value_to r P d p ≡ value_to r P e p
depth P o r zero e p on hd he = absurd (omega arith)
depth P o r (suc d) zero p on hd he = absurd (omega arith)
depth P o r (suc d) (suc e) p on hd he =
    ap (r (operation P p)) (map_same (value_to r P d) (value_to r P e) (inputs P p) (All-weaker (λ i. (1 ≤ i) × (i < p)) (λ i. value_to r P d i ≡ value_to r P e i)
    (λ i h. depth P o r d e i (h.0, omega arith) (omega arith) (omega arith)) (inputs P p) (o p on).1))

pub value_law : ValueLaw
value_law P o r zero on = absurd (omega arith)
value_law P o r (suc d) on =
    ap (r (operation P (suc d))) (map_same (value_to r P d) (value r P) (inputs P (suc d)) (All-weaker _ _ step (inputs P (suc d)) (o (suc d) on).1))
  where
    step : (i : ℕ) → (1 ≤ i) × (i < suc d) → value_to r P d i ≡ value r P i
    step i h = depth P o r d i i (h.0, omega arith) (omega arith) (omega arith)

-- a reading counts for lists of at most four numbers alone
short_to : (P : List Picture) → Ordered P → (r s : Reading) → ((o : ℕ) (xs : List ℕ) → length xs ≤ 4 → r o xs ≡ s o xs) → (d p : ℕ) → On P p → value_to r P d p ≡ value_to s P d p
short_to P o r s h zero p on = refl
short_to P o r s h (suc d) p on =
    h (operation P p) (map (value_to r P d) (inputs P p)) (omega (arith, length-map (inputs P p) (value_to r P d), (o p on).0))
    ∙ ap (s (operation P p)) (map_same (value_to r P d) (value_to s P d) (inputs P p) (All-weaker (λ i. (1 ≤ i) × (i < p)) (λ i. value_to r P d i ≡ value_to s P d i)
    (λ i k. short_to P o r s h d i (k.0, omega arith)) (inputs P p) (o p on).1))

pub short_law : ShortLaw
short_law P o r s h p on = short_to P o r s h p p on

alike : Reading → List Picture → ℕ → ℕ → Bool
alike r P a b = eqb (value r P a) (value r P b)

alike_congruence : (P : List Picture) (E : List Entry) → Ordered P → (r : Reading) → Satisfies r P E → Congruence P E (alike r P)
unfolding alike
alike_congruence P E o r s =
    record {
      reflexive = λ a _. eq-eqb _ _ refl;
      symmetric = λ a b _ _ h. eq-eqb _ _ (sym (eqb-true _ _ h));
      transitive = λ a b c _ _ _ h k. eq-eqb _ _ (eqb-true _ _ h ∙ eqb-true _ _ k);
      keeps = All-weaker _ _ keep E s;
      twins = twin;
    }
  where
    keep : (e : Entry) → Holds r P e → Keeps (Is (alike r P)) e
    keep (same a b) h = eq-eqb _ _ h
    keep (differ a b) h = tt

    twin : (a b : ℕ) → On P a → On P b → Twins P (Is (alike r P)) a b → Is (alike r P) a b
    twin a b oa ob t =
        eq-eqb _ _ (value_law P o r a oa
        ∙ ap₂ r t.0 (map_each (value r P) (Is (alike r P)) (inputs P a) (inputs P b) (λ x y h. eqb-true _ _ h) t.1)
        ∙ sym (value_law P o r b ob))

-- what the closure joins has one value in every satisfying reading
pub sound : (P : List Picture) (E : List Entry) → Ordered P → (a b : ℕ) → Closure P E a b → (r : Reading) → Satisfies r P E → value r P a ≡ value r P b
unfolding alike
sound P E o a b c r s = eqb-true _ _ (c.2 (alike r P) (alike_congruence P E o r s))
