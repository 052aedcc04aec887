-- A chain has fewer steps than the sheet has pictures: each step takes one representative away, and one is left. Assumes nothing.
use Rattle.std.proofs.Common.{◌≡◌, ℕ, zero, suc, ◌-◌, ◌≤◌, Bool, true, false, cond, eqb, ◌≢◌, List, [], ◌∷◌, length, sym, refl, ap, ◌∙◌, subst, arith}
use native.Mathlib.Decide.{ℕ_discrete}
use Rattle.std.proofs.lemmas.Bool.{cond-true, cond-false, eq-eqb, ne_eqb}
use Rattle.std.proofs.lemmas.List.Elements.{All-tail}
use Rattle.theory.specs.Sheet.{Picture, Entry, On, Proper}
use Rattle.theory.specs.Reasons.{Reason, by_entry, by_twins, left, right, JoinedBy, Fits, Derivation}
use Rattle.theory.specs.Slices.{FewLaw}
use Rattle.theory.proofs.Reasons.{number_on}
use Rattle.theory.proofs.Slices.{l_refl, l_sym, l_trans, l_step, l_more}

-- representatives that tell only what the steps S join
pub record Reps (P : List Picture) (S : List Reason) (f : ℕ → ℕ) : Type 0 where
  pub on : (x : ℕ) → On P x → On P (f x)
  pub own : (x : ℕ) → On P x → f (f x) ≡ f x
  pub told : (x : ℕ) → On P x → JoinedBy P S x (f x)

-- the classes of l and r made one: who had the one representative now has the other
abbrev pub joined_at : (ℕ → ℕ) → ℕ → ℕ → ℕ → ℕ
joined_at f l r x = cond (eqb (f x) (f l)) (f r) (f x)

joined_in : (f : ℕ → ℕ) (l r x : ℕ) → f x ≡ f l → joined_at f l r x ≡ f r
joined_in f l r x e = cond-true _ _ _ (eq-eqb (f x) (f l) e)

joined_out : (f : ℕ → ℕ) (l r x : ℕ) → f x ≢ f l → joined_at f l r x ≡ f x
joined_out f l r x n = cond-false _ _ _ (ne_eqb (f x) (f l) n)

module _ (P : List Picture) (S : List Reason) (f : ℕ → ℕ) (h : Reps P S f) where
  pub reps_linked : (x y : ℕ) → On P x → On P y → f x ≡ f y → JoinedBy P S x y
  reps_linked x y a b e = l_trans P S x (f x) y (h.told x a) (l_sym P S y (f x) (subst (λ z. JoinedBy P S y z) (sym e) (h.told y b)))

  module _ (s : Reason) (ol : On P (left s)) (or : On P (right s)) where
    g : ℕ → ℕ
    g = joined_at f (left s) (right s)

    pub reps-step : Reps P (s ∷ S) (joined_at f (left s) (right s))
    reps-step = record { on = on; own = own; told = told }
      where
        l : ℕ
        l = left s

        r : ℕ
        r = right s

        up : (x y : ℕ) → JoinedBy P S x y → JoinedBy P (s ∷ S) x y
        up = l_more P S (s ∷ S) (λ Q a. All-tail Q s S a)

        on : (x : ℕ) → On P x → On P (joined_at f l r x)
        on x o = go (ℕ_discrete (f x) (f l))
          where
            go : Dec (f x ≡ f l) → On P (joined_at f l r x)
            go (yes e) = subst (λ z. On P z) (sym (joined_in f l r x e)) (h.on r or)
            go (no n) = subst (λ z. On P z) (sym (joined_out f l r x n)) (h.on x o)

        -- a representative that the join leaves
        still : (x : ℕ) → On P x → f x ≢ f l → joined_at f l r (f x) ≡ f x
        still x o n = joined_out f l r (f x) (λ e. n (sym (h.own x o) ∙ e)) ∙ h.own x o

        own : (x : ℕ) → On P x → joined_at f l r (joined_at f l r x) ≡ joined_at f l r x
        own x o = go (ℕ_discrete (f x) (f l)) (ℕ_discrete (f r) (f l))
          where
            go : Dec (f x ≡ f l) → Dec (f r ≡ f l) → joined_at f l r (joined_at f l r x) ≡ joined_at f l r x
            go (no n) d = ap (joined_at f l r) (joined_out f l r x n) ∙ still x o n ∙ sym (joined_out f l r x n)
            go (yes e) (no m) = ap (joined_at f l r) (joined_in f l r x e) ∙ still r or m ∙ sym (joined_in f l r x e)
            go (yes e) (yes m) = ap (joined_at f l r) (joined_in f l r x e) ∙ joined_in f l r (f r) (h.own r or ∙ m) ∙ sym (joined_in f l r x e)

        told : (x : ℕ) → On P x → JoinedBy P (s ∷ S) x (joined_at f l r x)
        told x o = go (ℕ_discrete (f x) (f l))
          where
            go : Dec (f x ≡ f l) → JoinedBy P (s ∷ S) x (joined_at f l r x)
            go (yes e) =
                subst (λ z. JoinedBy P (s ∷ S) x z) (sym (joined_in f l r x e))
                (l_trans P (s ∷ S) x r (f r) (l_trans P (s ∷ S) x l r (up x l (reps_linked x l o ol e)) (l_step P S s ol or)) (up r (f r) (h.told r or)))
            go (no n) = subst (λ z. JoinedBy P (s ∷ S) x z) (sym (joined_out f l r x n)) (up x (f x) (h.told x o))

-- how many of 1 to n represent themselves
abbrev heads : (ℕ → ℕ) → ℕ → ℕ
heads f zero = 0
heads f (suc n) = cond (eqb (f (suc n)) (suc n)) (suc (heads f n)) (heads f n)

heads_id : (n : ℕ) → heads (λ x. x) n ≡ n
heads_id zero = refl
heads_id (suc n) = cond-true _ _ _ (eq-eqb (suc n) (suc n) refl) ∙ ap suc (heads_id n)

heads_one : (f : ℕ → ℕ) (x n : ℕ) → 1 ≤ x → x ≤ n → f x ≡ x → 1 ≤ heads f n
heads_one f x zero a b e = absurd (omega arith)
heads_one f x (suc n) a b e = go (ℕ_discrete x (suc n)) (ℕ_discrete (f (suc n)) (suc n)) (λ i. heads_one f x n a i e)
  where
    less : x ≢ suc n → x ≤ n
    less i = omega arith

    go : Dec (x ≡ suc n) → Dec (f (suc n) ≡ suc n) → (x ≤ n → 1 ≤ heads f n) → 1 ≤ heads f (suc n)
    go d (yes i) r = subst (λ z. 1 ≤ z) (sym (cond-true _ _ _ (eq-eqb (f (suc n)) (suc n) i))) (omega arith)
    go (yes i) (no m) r = absurd (m (subst (λ z. f z ≡ z) i e))
    go (no i) (no m) r = subst (λ z. 1 ≤ z) (sym (cond-false _ _ _ (ne_eqb (f (suc n)) (suc n) m))) (r (less i))

-- heads that agree but for x
heads_same : (f g : ℕ → ℕ) (n : ℕ) → ((p : ℕ) → 1 ≤ p → p ≤ n → eqb (f p) p ≡ eqb (g p) p) → heads f n ≡ heads g n
heads_same f g zero h = refl
heads_same f g (suc n) h =
    let a : eqb (f (suc n)) (suc n) ≡ eqb (g (suc n)) (suc n) = h (suc n) (omega arith) (omega arith) in
    let b : heads f n ≡ heads g n = heads_same f g n (λ p l u. h p l (omega arith)) in
    cc

heads_drop : (f g : ℕ → ℕ) (x n : ℕ) → 1 ≤ x → x ≤ n → f x ≡ x → g x ≢ x → ((p : ℕ) → 1 ≤ p → p ≤ n → p ≢ x → eqb (f p) p ≡ eqb (g p) p) → heads f n ≡ suc (heads g n)
heads_drop f g x zero a b e m h = absurd (omega arith)
heads_drop f g x (suc n) a b e m h = go (ℕ_discrete x (suc n)) (λ i. heads_drop f g x n a i e m (λ p l u. h p l (omega arith)))
  where
    less : x ≢ suc n → x ≤ n
    less i = omega arith

    ne : (p : ℕ) → x ≡ suc n → p ≤ n → p ≢ x
    ne p i u j = omega arith

    go : Dec (x ≡ suc n) → (x ≤ n → heads f n ≡ suc (heads g n)) → heads f (suc n) ≡ suc (heads g (suc n))
    go (yes i) r =
        cond-true _ _ _ (eq-eqb (f (suc n)) (suc n) (subst (λ z. f z ≡ z) i e))
        ∙ ap suc (heads_same f g n (λ p l u. h p l (omega arith) (ne p i u))
        ∙ sym (cond-false _ _ _ (ne_eqb (g (suc n)) (suc n) (λ j. m (subst (λ z. g z ≡ z) (sym i) j)))))
    go (no i) r =
        let t : eqb (f (suc n)) (suc n) ≡ eqb (g (suc n)) (suc n) = h (suc n) (omega arith) (omega arith) (λ j. i (sym j)) in
        let q : heads f n ≡ suc (heads g n) = r (less i) in
        pick (eqb (f (suc n)) (suc n)) (eqb (g (suc n)) (suc n)) (heads f n) (heads g n) t q
      where
        pick : (u v : Bool) (k j : ℕ) → u ≡ v → k ≡ suc j → cond u (suc k) k ≡ suc (cond v (suc j) j)
        pick true true k j a b = ap suc b
        pick false false k j a b = b
        pick true false k j a b = let z : ◌≡◌ {A = ℕ} 0 1 = cc in absurd (omega arith)
        pick false true k j a b = let z : ◌≡◌ {A = ℕ} 0 1 = cc in absurd (omega arith)

-- a join of two classes takes away the one head
heads_join : (P : List Picture) (S : List Reason) (f : ℕ → ℕ) → Reps P S f → (l r : ℕ) → On P l → On P r → f l ≢ f r →
    heads f (length P) ≡ suc (heads (joined_at f l r) (length P))
heads_join P S f h l r ol or ne =
    heads_drop f (joined_at f l r) (f l) (length P) (h.on l ol).0 (h.on l ol).1 (h.own l ol)
    (λ e. ne (sym (sym (joined_in f l r (f l) (h.own l ol)) ∙ e)))
    (λ p a b n. go p n (ℕ_discrete (f p) (f l)))
  where
    go : (p : ℕ) → p ≢ f l → Dec (f p ≡ f l) → eqb (f p) p ≡ eqb (joined_at f l r p) p
    go p n (no m) = ap (λ z. eqb z p) (sym (joined_out f l r p m))
    go p n (yes e) = ne_eqb (f p) p (λ i. n (sym i ∙ e)) ∙ sym (ne_eqb (joined_at f l r p) p (λ i. other p n e (sym (joined_in f l r p e) ∙ i)))
      where
        -- p is not r's head, since it is l's member
        other : (p : ℕ) → p ≢ f l → f p ≡ f l → f r ≢ p
        other p n e i = ne (sym e ∙ ap f (sym i) ∙ h.own r or)

module _ (P : List Picture) (E : List Entry) (w : Proper P E) where
  pub ends_on : (S : List Reason) (s : Reason) → Fits P E S s → On P (left s) × On P (right s)
  ends_on S (by_entry l r k) f = number_on P E w.1 k l r f
  ends_on S (by_twins l r) f = (f.0, f.1)

  bound : 1 ≤ length P → (S : List Reason) (f : ℕ → ℕ) → Reps P S f → (T : List Reason) → Derivation P E S T → suc (length T) ≤ heads f (length P)
  bound n S f h [] c = heads_one f (f 1) (length P) (h.on 1 (omega arith, n)).0 (h.on 1 (omega arith, n)).1 (h.own 1 (omega arith, n))
  bound n S f h (s ∷ T) c =
      let o = ends_on S s c.0 in
      let e : heads f (length P) ≡ suc (heads (joined_at f (left s) (right s)) (length P)) =
      heads_join P S f h (left s) (right s) o.0 o.1 (λ i. c.1 (reps_linked P S f h (left s) (right s) o.0 o.1 i)) in
      let r : suc (length T) ≤ heads (joined_at f (left s) (right s)) (length P) =
      bound n (s ∷ S) (joined_at f (left s) (right s)) (reps-step P S f h s o.0 o.1) T c.2 in
      omega (arith, e, r)

  start : Reps P [] (λ x. x)
  start = record { on = λ x o. o; own = λ x o. refl; told = λ x o. l_refl P [] x o }

pub few_law : FewLaw
few_law P E w T c = go T c (ℕ_discrete (length P) 0)
  where
    go : (T : List Reason) → Derivation P E [] T → Dec (length P ≡ 0) → length T ≤ length P - 1
    go T c (no n) = omega (arith, bound P E w (omega arith) [] (λ x. x) (start P E w) T c, heads_id (length P))
    go [] c (yes e) = omega arith
    go (s ∷ T) c (yes e) = let o = ends_on P E w [] s c.0 in absurd (omega (arith, o.0.0, o.0.1, e))
