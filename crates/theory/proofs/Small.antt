-- The small laws. Assumes nothing.
use Rattle.std.proofs.Common.{◌≡◌, ℕ, zero, suc, ◌≤◌, List, [], ◌∷◌, ◌++◌, length, All, sym, refl, ap, ◌∙◌, subst, inl, inr, arith}
use native.Mathlib.Decide.{ℕ_discrete}
use Rattle.std.specs.List.{AllZip}
use Rattle.std.proofs.lemmas.List.Elements.{All-contains, All-push, All-cons, All-nil}
use Rattle.theory.specs.Sheet.{Picture, Entry, differ, On, Is, Keeps, Closure, Lowest, Counts, inputs}
use Rattle.theory.specs.Laws.{ClosureLaw, LowestLaw, ClassesLaw, Valued, WideLaw, NoValueLaw, DifferLaw}
use Rattle.theory.proofs.Closed.{c_refl, c_sym, c_trans, c_twins, c_keeps, lowest_same}
use Rattle.theory.proofs.Settled.{known_all}
use Rattle.theory.proofs.Each.{uncons}

pub closure_law : ClosureLaw
closure_law P E w =
    (c_refl P E, c_sym P E, c_trans P E, c_keeps P E w, c_twins P E, λ R g a b c. c.2 R g)

pub lowest_law : LowestLaw
lowest_law P E w p on =
    let k = known_all P E w p on in
    (k.0, k.1, λ n l. lowest_same P E p p n k.0 (c_refl P E p on) l k.1)

-- two counts of one property are one number
pub counts_one : (Q : ℕ → Type 0) (n j k : ℕ) → Counts Q n j → Counts Q n k → j ≡ k
counts_one Q zero j k a b = a ∙ sym b
counts_one Q (suc n) j k (inl a) (inl b) = a.1.1 ∙ (ap suc (counts_one Q n a.1.0 b.1.0 a.1.2 b.1.2) ∙ sym b.1.1)
counts_one Q (suc n) j k (inl a) (inr b) = absurd (b.0 a.0)
counts_one Q (suc n) j k (inr a) (inl b) = absurd (a.0 b.0)
counts_one Q (suc n) j k (inr a) (inr b) = counts_one Q n j k a.1 b.1

-- a property that can be decided can be counted
pub counts_some : (Q : ℕ → Type 0) (n : ℕ) → ((p : ℕ) → 1 ≤ p → p ≤ n → Dec (Q p)) → (k : ℕ) × Counts Q n k
counts_some Q zero d = (0, refl)
counts_some Q (suc n) d = go (d (suc n) (omega arith) (omega arith)) (counts_some Q n (λ p a b. d p a (omega arith)))
  where
    go : Dec (Q (suc n)) → ((k : ℕ) × Counts Q n k) → (k : ℕ) × Counts Q (suc n) k
    go (yes q) c = (suc c.0, inl (q, (c.0, refl, c.1)))
    go (no q) c = (c.0, inr (q, c.1))

pub classes_law : ClassesLaw
classes_law P E w =
    let c = counts_some (λ p. Lowest P E p p) (length P) (λ p a b. own p (a, b)) in
    (c.0, c.1, λ j d. counts_one (λ p. Lowest P E p p) (length P) j c.0 d c.1)
  where
    own : (p : ℕ) → On P p → Dec (Lowest P E p p)
    own p on = go (ℕ_discrete (known_all P E w p on).0 p)
      where
        go : Dec ((known_all P E w p on).0 ≡ p) → Dec (Lowest P E p p)
        go (yes e) = yes (subst (λ k. Lowest P E p k) e (known_all P E w p on).1)
        go (no n) = no (λ l. n (lowest_same P E p p _ _ (c_refl P E p on) (known_all P E w p on).1 l))

-- the numbers that a picture bears are values
row_values : (P : List Picture) (E : List Entry) (is xs : List ℕ) → AllZip (Lowest P E) is xs → All (Valued P E) xs
row_values P E [] [] e = All-nil _
row_values P E [] (x ∷ xs) e = absurd e
row_values P E (i ∷ is) [] e = All-nil _
row_values P E (i ∷ is) (x ∷ xs) e = All-cons (Valued P E) x xs (i, e.0) (row_values P E is xs e.1)

pub no_value_law : NoValueLaw
no_value_law P E = (
  (λ o xs v a x h n. a.1 (λ p b. n (All-contains (Valued P E) xs x (row_values P E (inputs P p) xs b.2) h))),
  (λ x off l. off l.1.0.1),
)

pub wide_law : WideLaw
wide_law P E o xs v a x h l = let n = no_value_law P E in n.0 o xs v a x h (n.1 x l)

-- ONE ENTRY MORE
all_front : (Q : Entry → Type 0) (E : List Entry) (e : Entry) → All Q (E ++ (e ∷ [])) → All Q E
all_front Q [] e a = All-nil _
all_front Q (x ∷ E) e a = let h = uncons Q x (E ++ (e ∷ [])) a in All-cons Q x E h.0 (all_front Q E e h.1)

pub closure_more : (P : List Picture) (E : List Entry) (e : Entry) (a b : ℕ) → Closure P E a b → Closure P (E ++ (e ∷ [])) a b
closure_more P E e a b c = (
  c.0,
  c.1,
  λ R g. c.2 R (record {
    reflexive = g.reflexive;
    symmetric = g.symmetric;
    transitive = g.transitive;
    keeps = all_front (Keeps (Is R)) E e g.keeps;
    twins = g.twins;
  }),
)

pub differ_law : DifferLaw
differ_law P E c d a b = (
  closure_more P E (differ c d) a b,
  λ h. (
    h.0,
    h.1,
    λ R g. h.2 R (record {
      reflexive = g.reflexive;
      symmetric = g.symmetric;
      transitive = g.transitive;
      keeps = All-push (Keeps (Is R)) E (differ c d) g.keeps tt;
      twins = g.twins;
    }),
  ),
)
