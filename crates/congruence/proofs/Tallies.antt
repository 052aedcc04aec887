-- Classes and joins, counted: a labelling makes as many classes as there are pictures that represent themselves. Assumes nothing.
use Rattle.std.proofs.Common.{◌≡◌, ℕ, zero, suc, ◌+◌, ◌-◌, ◌<◌, ◌≤◌, ◌==◌, cond, ◌≢◌, ◌⊎◌, List, [], ◌∷◌, ◌++◌, map, length, ltb, sym, refl, ap, ◌∙◌, subst, inl, inr, ⊎_elim, arith}
use Rattle.std.proofs.lemmas.Bool.{cases_eq, cases_Bool, cond-true, cond-false, eq-eqb, ne_eqb, lt-ltb, ltb-true, ltb-false}
use Rattle.std.proofs.lemmas.List.{length_push}
use Rattle.theory.specs.Sheet.{Picture}
use Rattle.theory.specs.Parts.{Leads, Parts, Joins}
use Rattle.theory.proofs.Small.{counts_one}
use Rattle.theory.proofs.Parts.{counts_same, parts_alone, parts_joined}
use Rattle.keepers.specs.Meaning.{rep, Settled, Unites, moved, ends, class_count}
use Rattle.keepers.specs.ClassCounts.{classes_push}
use Rattle.keepers.specs.Drops.{fewer}
use Rattle.keepers.specs.Reps.{united_length}
use Rattle.congruence.specs.declared.journal.Join.{Join}
use Rattle.congruence.specs.Working.{Apart, Books, Booked, Progress}

-- labels that agree make as many classes
parts_same : (f g : ℕ → ℕ) (n : ℕ) → ((p : ℕ) → 1 ≤ p → p ≤ n → f p ≡ g p) → (k : ℕ) → Parts f n k → Parts g n k
parts_same f g n h =
    counts_same (Leads f n) (Leads g n) n
    (λ p l u. (
      (λ w q lq uq e. w q lq uq (h q lq uq ∙ (e ∙ sym (h p l u)))),
      λ w q lq uq e. w q lq uq (sym (h q lq uq) ∙ (e ∙ h p l u)),
    ))

-- the labels up to j, and above it each number by itself
lab : (ℕ → ℕ) → ℕ → ℕ → ℕ
lab f j p = cond (ltb j p) p (f p)

low : (f : ℕ → ℕ) (j p : ℕ) → p ≤ j → lab f j p ≡ f p
unfolding lab
low f j p l = ⊎_elim (λ t. let k = ltb-true j p t in absurd (omega arith)) (λ e. cond-false _ _ _ e) (cases_Bool (ltb j p))

high : (f : ℕ → ℕ) (j p : ℕ) → j < p → lab f j p ≡ p
unfolding lab
high f j p l = cond-true _ _ _ (lt-ltb j p l)

-- a number that does not represent itself joins its representative
module _ (f : ℕ → ℕ) (n j : ℕ) (l : suc j ≤ n) (in-it : (1 ≤ f (suc j)) × (f (suc j) ≤ n)) (rest : f (f (suc j)) ≡ f (suc j)) (ne : f (suc j) ≢ suc j) where
  own : lab f j (suc j) ≡ suc j
  own = high f j (suc j) (omega arith)

  heir : lab f j (f (suc j)) ≡ f (suc j)
  heir = ⊎_elim (λ t. high f j (f (suc j)) (ltb-true j (f (suc j)) t)) (λ e. low f j (f (suc j)) (ltb-false j (f (suc j)) e) ∙ rest) (cases_Bool (ltb j (f (suc j))))

  at : lab f (suc j) (suc j) ≡ f (suc j)
  at = low f (suc j) (suc j) (omega arith)

  away : (x : ℕ) → x ≢ suc j → lab f (suc j) x ≡ lab f j x
  away x d =
      ⊎_elim
      (λ t. let k = ltb-true j x t in high f (suc j) x (omega (arith, k, d)) ∙ sym (high f j x k))
      (λ e. let k = ltb-false j x e in low f (suc j) x (omega (arith, k)) ∙ sym (low f j x k))
      (cases_Bool (ltb j x))

  -- above it and below it, none has its number for a label
  only-own : (x : ℕ) → lab f j x ≡ suc j → (f (f x) ≡ f x) → x ≡ suc j
  only-own x e r =
      ⊎_elim
      (λ t. let k = ltb-true j x t in sym (high f j x k) ∙ e)
      (λ z. let k = ltb-false j x z in let y : f x ≡ suc j = sym (low f j x k) ∙ e in absurd (ne (sym (ap f y) ∙ (r ∙ y))))
      (cases_Bool (ltb j x))

  step-joins : ((x : ℕ) → 1 ≤ x → x ≤ n → f (f x) ≡ f x) → Joins (lab f j) (lab f (suc j)) n (suc j) (f (suc j))
  step-joins idem =
      record {
        keeps = λ x y lx ux ly uy e. keeps x y lx ux ly uy e (cases_eq x (suc j)) (cases_eq y (suc j));
        meets = at ∙ (sym heir ∙ sym (away (f (suc j)) ne));
        only = λ x y lx ux ly uy e. only x y e (cases_eq x (suc j)) (cases_eq y (suc j));
      }
    where
      keeps : (x y : ℕ) → 1 ≤ x → x ≤ n → 1 ≤ y → y ≤ n → lab f j x ≡ lab f j y → (x ≡ suc j) ⊎ (x ≢ suc j) → (y ≡ suc j) ⊎ (y ≢ suc j) → lab f (suc j) x ≡ lab f (suc j) y
      keeps x y lx ux ly uy e (inl a) (inl b) = ap (lab f (suc j)) (a ∙ sym b)
      keeps x y lx ux ly uy e (inl a) (inr b) = absurd (b (only-own y (sym e ∙ (ap (lab f j) a ∙ own)) (idem y ly uy)))
      keeps x y lx ux ly uy e (inr a) (inl b) = absurd (a (only-own x (e ∙ (ap (lab f j) b ∙ own)) (idem x lx ux)))
      keeps x y lx ux ly uy e (inr a) (inr b) = away x a ∙ (e ∙ sym (away y b))

      only : (x y : ℕ) → lab f (suc j) x ≡ lab f (suc j) y → (x ≡ suc j) ⊎ (x ≢ suc j) → (y ≡ suc j) ⊎ (y ≢ suc j) →
          (lab f j x ≡ lab f j y) ⊎ (((lab f j x ≡ lab f j (suc j)) × (lab f j y ≡ lab f j (f (suc j)))) ⊎ ((lab f j x ≡ lab f j (f (suc j))) × (lab f j y ≡ lab f j (suc j))))
      only x y e (inl a) (inl b) = inl (ap (lab f j) (a ∙ sym b))
      only x y e (inl a) (inr b) = inr (inl (ap (lab f j) a, sym (away y b) ∙ (sym e ∙ (ap (lab f (suc j)) a ∙ (at ∙ sym heir)))))
      only x y e (inr a) (inl b) = inr (inr (sym (away x a) ∙ (e ∙ (ap (lab f (suc j)) b ∙ (at ∙ sym heir))), ap (lab f j) b))
      only x y e (inr a) (inr b) = inl (sym (away x a) ∙ (e ∙ away y b))

-- the first j labels made, the classes are the ends among these and all numbers above
parts_to : (rs : List ℕ) → Settled rs → (j : ℕ) → j ≤ length rs → Parts (lab (rep rs) j) (length rs) (ends rs j + (length rs - j))
parts_to rs s zero l =
    subst (Parts (lab (rep rs) 0) (length rs)) (omega arith)
    (parts_alone (lab (rep rs) 0) (length rs) (λ p q lp up lq uq e. sym (high (rep rs) 0 p (omega arith)) ∙ (e ∙ high (rep rs) 0 q (omega arith))))
parts_to rs s (suc j) l =
    let n : ℕ = length rs in
    let c = parts_to rs s j (omega arith) in
    let r = s (suc j) (omega arith, l) in
    ⊎_elim
    (λ e.
    let k : cond {A = ℕ} (rep rs (suc j) == suc j) 1 0 ≡ 1 = cond-true _ _ _ (eq-eqb (rep rs (suc j)) (suc j) e) in
    subst (Parts (lab (rep rs) (suc j)) n) (omega (arith, k))
    (parts_same (lab (rep rs) j) (lab (rep rs) (suc j)) n
    (λ p lp up. ⊎_elim
    (λ h. ap (lab (rep rs) j) h ∙ (high (rep rs) j (suc j) (omega arith) ∙ (sym e ∙ (sym (low (rep rs) (suc j) (suc j) (omega arith)) ∙ ap (lab (rep rs) (suc j)) (sym h)))))
    (λ d. sym (past p d))
    (cases_eq p (suc j)))
    (ends rs j + (n - j)) c))
    (λ ne.
    let k : cond {A = ℕ} (rep rs (suc j) == suc j) 1 0 ≡ 0 = cond-false _ _ _ (ne_eqb (rep rs (suc j)) (suc j) ne) in
    let d = parts_joined (lab (rep rs) j) (lab (rep rs) (suc j)) n (suc j) (rep rs (suc j)) (omega arith) l r.0.0 r.0.1
    (λ z. ne (sym (heir (rep rs) n j l r.0 r.1 ne) ∙ (sym z ∙ own (rep rs) n j l r.0 r.1 ne)))
    (step-joins (rep rs) n j l r.0 r.1 ne (λ x lx ux. (s x (lx, ux)).1)) (ends rs j + (n - j)) c in
    subst (Parts (lab (rep rs) (suc j)) n) (omega (arith, k, d.1)) d.2)
    (cases_eq (rep rs (suc j)) (suc j))
  where
    past : (x : ℕ) → x ≢ suc j → lab (rep rs) (suc j) x ≡ lab (rep rs) j x
    past x d =
        ⊎_elim
        (λ t. let k = ltb-true j x t in high (rep rs) (suc j) x (omega (arith, k, d)) ∙ sym (high (rep rs) j x k))
        (λ e. let k = ltb-false j x e in low (rep rs) (suc j) x (omega (arith, k)) ∙ sym (low (rep rs) j x k))
        (cases_Bool (ltb j x))

pub parts_counted : (rs : List ℕ) → Settled rs → Parts (rep rs) (length rs) (class_count rs)
parts_counted rs s =
    subst (Parts (rep rs) (length rs)) (omega arith)
    (parts_same (lab (rep rs) (length rs)) (rep rs) (length rs) (λ p l u. low (rep rs) (length rs) p u) (ends rs (length rs) + (length rs - length rs)) (parts_to rs s (length rs) (omega arith)))

-- a journal that tells the classes has a join for each class that was lost
pub books_booked : (rs : List ℕ) (P : List Picture) (J : List Join) → Settled rs → length rs ≡ length P → Books rs P J → Booked rs (length J)
books_booked rs P J s e b =
    let c = subst (λ (n : ℕ). Parts (rep rs) n (class_count rs)) e (parts_counted rs s) in
    let k = counts_one (Leads (rep rs) (length P)) (length P) (class_count rs) (length P - length J) c b.classes in
    omega (arith, k, b.few, e)

-- one join is progress
pub joined_progress : (j : Join) (n : ℕ) (rs rs' : List ℕ) → Settled rs → Apart rs j → Unites j.left j.right rs rs' → Progress rs rs' n (n + 1)
joined_progress j n rs rs' s a u =
    let f = fewer j.left j.right rs rs' s a.left_on a.right_on a.apart u in
    record { counted = united_length j.left j.right rs rs' u; balance = omega arith; longer = omega arith }

pub progress_then : (rs rs' rs'' : List ℕ) (j j' j'' : ℕ) → Progress rs rs' j j' → Progress rs' rs'' j' j'' → Progress rs rs'' j j''
progress_then rs rs' rs'' j j' j'' p q =
    record { counted = q.counted ∙ p.counted; balance = q.balance ∙ p.balance; longer = omega (arith, p.longer, q.longer) }

pub progress_booked : (rs rs' : List ℕ) (j j' : ℕ) → Progress rs rs' j j' → Booked rs j → Booked rs' j'
progress_booked rs rs' j j' p b = omega (arith, p.balance, p.counted, b)

-- while two classes are left there is room for a join
pub apart_room : (j : Join) (n : ℕ) (rs : List ℕ) → Settled rs → Apart rs j → Booked rs n → n < length rs
apart_room j n rs s a b =
    let f = fewer j.left j.right rs (map (moved (rep rs j.right) (rep rs j.left)) rs) s a.left_on a.right_on a.apart (inl refl) in
    omega (arith, f, b)

pub grown_booked : (rs rs' : List ℕ) (x j : ℕ) → rs' ≡ rs ++ x ∷ [] → Booked rs j → Booked rs' j
grown_booked rs rs' x j e b =
    let l = ap length e ∙ length_push rs x in
    let c = classes_push rs rs' x e in
    omega arith
