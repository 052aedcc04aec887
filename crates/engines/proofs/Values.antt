-- What is a value, and what apply answers. Assumes nothing.
use Rattle.std.proofs.Common.{◌≡◌, ℕ, ◌<◌, ◌≤◌, eqb, List, [], ◌∷◌, map, length, Some, None, Decides, All, Option, sym, refl, ap, ◌∙◌, subst, inr, arith}
use Rattle.std.specs.List.{AllZip}
use Rattle.std.proofs.lemmas.List.Elements.{All-nil, All-cons, All-head, All-tail, All-weaker}
use Rattle.std.proofs.lemmas.Bool.{eq-eqb, eqb-true}
use Rattle.theory.specs.Sheet.{Picture, Entry, On, Ordered, operation, inputs, Closure, Lowest, Applies}
use Rattle.theory.specs.Calls.{Content, Answers, value, apply, valued}
use Rattle.theory.proofs.Closed.{c_refl, c_sym, c_trans, c_twins, lowest_same}
use Rattle.congruence.specs.Working.{Closes}
use Rattle.congruence.specs.Waiting.{Exact}
use Rattle.engines.specs.Values.{Value, Meets, Bearer}

module _ (P : List Picture) (E : List Entry) where
  -- the lowest number of a class is a value
  pub value_from : (i x : ℕ) → Lowest P E i x → Value P E x
  value_from i x l = (c_refl P E x l.0.1, λ q k. l.1 q (c_trans P E i x q l.0 k))

  lowest_from : (i x : ℕ) → Closure P E i x → Value P E x → Lowest P E i x
  lowest_from i x c v = (c, λ q k. v.1 q (c_trans P E x i q (c_sym P E i x c) k))

  values_from : (is xs : List ℕ) → AllZip (Lowest P E) is xs → All (Value P E) xs
  values_from [] [] h = All-nil (Value P E)
  values_from [] (x ∷ xs) h = absurd h
  values_from (i ∷ is) [] h = absurd h
  values_from (i ∷ is) (x ∷ xs) h = All-cons (Value P E) x xs (value_from i x h.0) (values_from is xs h.1)

  classes_from : (is xs : List ℕ) → AllZip (Lowest P E) is xs → AllZip (Closure P E) is xs
  classes_from [] [] h = tt
  classes_from [] (x ∷ xs) h = absurd h
  classes_from (i ∷ is) [] h = absurd h
  classes_from (i ∷ is) (x ∷ xs) h = (h.0.0, classes_from is xs h.1)

  lowest_each : (is xs : List ℕ) → AllZip (Closure P E) is xs → All (Value P E) xs → AllZip (Lowest P E) is xs
  lowest_each [] [] h v = tt
  lowest_each [] (x ∷ xs) h v = absurd h
  lowest_each (i ∷ is) [] h v = absurd h
  lowest_each (i ∷ is) (x ∷ xs) h v = (lowest_from i x h.0 (All-head (Value P E) x xs v), lowest_each is xs h.1 (All-tail (Value P E) x xs v))

  met_each : (is js xs : List ℕ) → AllZip (Closure P E) is xs → AllZip (Closure P E) js xs → AllZip (Closure P E) is js
  met_each [] [] xs h k = tt
  met_each [] (j ∷ js) [] h k = absurd k
  met_each [] (j ∷ js) (x ∷ xs) h k = absurd h
  met_each (i ∷ is) [] [] h k = absurd h
  met_each (i ∷ is) [] (x ∷ xs) h k = absurd k
  met_each (i ∷ is) (j ∷ js) [] h k = absurd h
  met_each (i ∷ is) (j ∷ js) (x ∷ xs) h k = (c_trans P E i x j h.0 (c_sym P E j x k.0), met_each is js xs h.1 k.1)

  -- WHAT APPLY ANSWERS
  -- where a number is no value, no picture bears it
  pub no_value_applies : (o : ℕ) (xs : List ℕ) → ¬ All (Value P E) xs → Applies P E o xs 0
  no_value_applies o xs n = ((λ p b. absurd (n (values_from (inputs P p) xs b.2))), λ u. refl)

  -- where no picture meets the classes, none bears the values
  pub none_applies : (o : ℕ) (xs : List ℕ) → ((p : ℕ) → ¬ Meets P E o xs p) → Applies P E o xs 0
  none_applies o xs n = ((λ p b. absurd (n p (b.0, b.1, classes_from (inputs P p) xs b.2))), λ u. refl)

  -- all pictures that bear the values are twins, so they have the value of the one that was found
  pub one_applies : (o : ℕ) (xs : List ℕ) (p v : ℕ) → All (Value P E) xs → Meets P E o xs p → Lowest P E p v → Applies P E o xs v
  one_applies o xs p v a m l = (
    (λ q b. shared q (c_twins P E q p b.0 m.0 (b.1 ∙ sym m.1, met_each (inputs P q) (inputs P p) xs (classes_from (inputs P q) xs b.2) m.2))),
    λ n. absurd (n p (m.0, m.1, lowest_each (inputs P p) xs m.2 a)),
  )
    where
      shared : (q : ℕ) → Closure P E q p → Lowest P E q v
      shared q c = (c_trans P E q p v c l.0, λ r k. l.1 r (c_trans P E p q r (c_sym P E q p c) k))

  -- a value is its own lowest number
  pub value_decides : (x m : ℕ) → On P x → Lowest P E x m → Decides (eqb m x) (Value P E x)
  value_decides x m o l = (
    (λ t. subst (λ (y : ℕ). Lowest P E x y) (eqb-true m x t) l),
    λ v. eq-eqb m x (lowest_same P E x x m x (c_refl P E x o) l v),
  )

-- THE INDEX LEADS TO WHAT MEETS THE CLASSES
module _ (P : List Picture) (E : List Entry) (f : ℕ → ℕ) (c : Closes P E f) where
  rows_from : (is xs : List ℕ) → AllZip (Closure P E) is xs → map f is ≡ map f xs
  rows_from [] [] h = refl
  rows_from [] (x ∷ xs) h = absurd h
  rows_from (i ∷ is) [] h = absurd h
  rows_from (i ∷ is) (x ∷ xs) h = let e = (c i x h.0.0 h.0.1).1 h.0 in let es = rows_from is xs h.1 in cc

  classes_of : (is xs : List ℕ) → All (On P) is → All (On P) xs → map f is ≡ map f xs → AllZip (Closure P E) is xs
  classes_of [] [] a b e = tt
  classes_of [] (x ∷ xs) a b e = absurd (omega (arith, ap length e))
  classes_of (i ∷ is) [] a b e = absurd (omega (arith, ap length e))
  classes_of (i ∷ is) (x ∷ xs) a b e = ((c i x (All-head (On P) i is a) (All-head (On P) x xs b)).0 (cc), classes_of is xs (All-tail (On P) i is a) (All-tail (On P) x xs b) (cc))

  pub bearer_found : (m : ℕ → List ℕ → Option ℕ) → Exact f P m → Ordered P → (o : ℕ) (xs w : List ℕ) → All (On P) xs → w ≡ map f xs → (r : Option ℕ) → r ≡ m o w → Bearer P E o xs r
  bearer_found m x d o xs w a ew (Some q) e =
      let b = x.bears o w q (sym e) in
      (b.0, b.1, classes_of (inputs P q) xs (All-weaker (λ i. (1 ≤ i) × (i < q)) (On P) (λ i h. (h.0, omega (arith, h.1, b.0.1))) (inputs P q) (d q b.0).1) a (b.2 ∙ ew))
  bearer_found m x d o xs w a ew None e = λ p k.
      let h = x.finds p k.0 in
      let s : m o w ≡ Some h.0 = ap (λ (n : ℕ). m n w) (sym k.1) ∙ (ap (m (operation P p)) (ew ∙ sym (rows_from (inputs P p) xs k.2)) ∙ h.1) in
      let z : ◌≡◌ {A = ℕ} 0 1 = cc in
      omega arith

-- THE ANSWERS
pub value_answers : (cap : ℕ) (s : Content) (p m : ℕ) → On s.pictures p → Lowest s.pictures s.entries p m → Answers cap s (value p) (valued m)
value_answers cap s p m o l = inr ((λ n. n o), (m, l, refl))

pub apply_answers : (cap : ℕ) (s : Content) (o : ℕ) (xs : List ℕ) (v : ℕ) → length xs ≤ 4 → Applies s.pictures s.entries o xs v → Answers cap s (apply o xs) (valued v)
apply_answers cap s o xs v l a = inr ((λ k. omega (arith, k, l)), (v, a, refl))

-- THE SHEET BETWEEN ITS LOOKS: t and u hold what s holds, and ys are xs
pub on_values : (s t : Content) (xs ys : List ℕ) → t ≡ s → ys ≡ xs → All (Value s.pictures s.entries) xs → All (On t.pictures) ys
on_values s t xs ys et ey a =
    subst (λ (w : Content). All (On w.pictures) ys) (sym et) (subst (All (On s.pictures)) (sym ey) (All-weaker (Value s.pictures s.entries) (On s.pictures) (λ x v. v.0.0) xs a))

pub found_applies : (s t u : Content) (o : ℕ) (xs ys : List ℕ) (p v : ℕ) → t ≡ s → u ≡ t → ys ≡ xs → All (Value s.pictures s.entries) xs → Meets t.pictures t.entries o ys p →
    Lowest u.pictures u.entries p v → Applies s.pictures s.entries o xs v
found_applies s t u o xs ys p v et eu ey a m l =
    one_applies s.pictures s.entries o xs p v a
    (subst (λ (zs : List ℕ). Meets s.pictures s.entries o zs p) ey (subst (λ (w : Content). Meets w.pictures w.entries o ys p) et m))
    (subst (λ (w : Content). Lowest w.pictures w.entries p v) (eu ∙ et) l)

pub none_found_applies : (s t : Content) (o : ℕ) (xs ys : List ℕ) → t ≡ s → ys ≡ xs → ((p : ℕ) → ¬ Meets t.pictures t.entries o ys p) → Applies s.pictures s.entries o xs 0
none_found_applies s t o xs ys et ey n =
    none_applies s.pictures s.entries o xs
    (subst (λ (zs : List ℕ). (p : ℕ) → ¬ Meets s.pictures s.entries o zs p) ey (subst (λ (w : Content). (p : ℕ) → ¬ Meets w.pictures w.entries o ys p) et n))
