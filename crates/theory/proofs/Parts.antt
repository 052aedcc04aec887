-- The number of classes of a labelling. Assumes nothing.
use Rattle.std.proofs.Common.{◌≡◌, ℕ, zero, suc, ◌<◌, ◌≤◌, ◌≢◌, ◌⊎◌, ◌↔◌, length, sym, refl, ap, ◌∙◌, subst, inl, inr, ⊎_elim, le_antisymm, arith}
use native.Mathlib.Decide.{ℕ_discrete, dec_le}
use Rattle.std.proofs.lemmas.Bool.{cases_order}
use Rattle.theory.specs.Sheet.{Lowest, Counts}
use Rattle.theory.proofs.Small.{counts_one, counts_some}
use Rattle.theory.specs.Parts.{Leads, Parts, Joins, JoinLaw, PartsLaw}

-- facts that agree up to n have one count
pub counts_same : (Q W : ℕ → Type 0) (n : ℕ) → ((p : ℕ) → 1 ≤ p → p ≤ n → Q p ↔ W p) → (k : ℕ) → Counts Q n k → Counts W n k
counts_same Q W zero h k c = c
counts_same Q W (suc n) h k (inl c) =
    inl ((h (suc n) (omega arith) (omega arith)).0 c.0, (c.1.0, c.1.1, counts_same Q W n (λ p a b. h p a (omega arith)) c.1.0 c.1.2))
counts_same Q W (suc n) h k (inr c) =
    inr ((λ w. c.0 ((h (suc n) (omega arith) (omega arith)).1 w)), counts_same Q W n (λ p a b. h p a (omega arith)) k c.1)

-- and facts that differ at one number have counts that differ by one
counts_fall : (Q W : ℕ → Type 0) (x : ℕ) → Q x → ¬ W x → (n : ℕ) → 1 ≤ x → x ≤ n → ((p : ℕ) → 1 ≤ p → p ≤ n → p ≢ x → W p ↔ Q p) →
    (k : ℕ) → Counts W n k → Counts Q n (suc k)
counts_fall Q W x q w zero l u h k c = absurd (omega arith)
counts_fall Q W x q w (suc n) l u h k c = go (ℕ_discrete x (suc n)) c (λ v k' c'. counts_fall Q W x q w n l v (λ p a b. h p a (omega arith)) k' c')
  where
    ne : (p : ℕ) → x ≡ suc n → p ≤ n → p ≢ x
    ne p e b i = omega arith

    less : x ≢ suc n → x ≤ n
    less i = omega arith

    go : Dec (x ≡ suc n) → Counts W (suc n) k → (x ≤ n → (k' : ℕ) → Counts W n k' → Counts Q n (suc k')) → Counts Q (suc n) (suc k)
    go (yes e) (inl d) r = absurd (w (subst W (sym e) d.0))
    go (yes e) (inr d) r = inl (subst Q e q, (k, refl, counts_same W Q n (λ p i m. h p i (omega arith) (ne p e m)) k d.1))
    go (no i) (inl d) r =
        inl ((h (suc n) (omega arith) (omega arith) (λ e. i (sym e))).0 d.0, (suc d.1.0, ap suc d.1.1, r (less i) d.1.0 d.1.2))
    go (no i) (inr d) r = inr ((λ z. d.0 ((h (suc n) (omega arith) (omega arith) (λ e. i (sym e))).1 z)), r (less i) k d.1)

-- the lowest number with a label, looked for up to k
Found : (ℕ → ℕ) → ℕ → ℕ → ℕ → Type 0
Found f n t k = (x : ℕ) × ((1 ≤ x) × (x ≤ k) × (f x ≡ t) × ((q : ℕ) → 1 ≤ q → q ≤ n → f q ≡ t → x ≤ q))

least : (f : ℕ → ℕ) (n t k : ℕ) → k ≤ n → ((q : ℕ) → 1 ≤ q → q ≤ k → f q ≢ t) ⊎ Found f n t k
unfolding Found
least f n t zero h = inl (λ q l u e. omega arith)
least f n t (suc k) h = go (least f n t k (omega arith)) (ℕ_discrete (f (suc k)) t)
  where
    past : ((q : ℕ) → 1 ≤ q → q ≤ k → f q ≢ t) → (q : ℕ) → 1 ≤ q → f q ≡ t → Dec (q ≤ k) → suc k ≤ q
    past m q l e (yes i) = absurd (m q l i e)
    past m q l e (no i) = omega arith

    none : ((q : ℕ) → 1 ≤ q → q ≤ k → f q ≢ t) → f (suc k) ≢ t → (q : ℕ) → 1 ≤ q → q ≤ suc k → Dec (q ≤ k) → f q ≢ t
    none m i q l u (yes v) e = m q l v e
    none m i q l u (no v) e = i (subst (λ z. f z ≡ t) (end q u v) e)
      where
        end : (z : ℕ) → z ≤ suc k → ¬ (z ≤ k) → z ≡ suc k
        end z c d = omega arith

    go : ((q : ℕ) → 1 ≤ q → q ≤ k → f q ≢ t) ⊎ Found f n t k → Dec (f (suc k) ≡ t) → ((q : ℕ) → 1 ≤ q → q ≤ suc k → f q ≢ t) ⊎ Found f n t (suc k)
    go (inr s) d = inr (s.0, (s.1.0, omega (arith, s.1.1), s.1.2, s.1.3))
    go (inl m) (yes e) = inr (suc k, (omega arith, omega arith, e, λ q l u i. past m q l i (dec_le q k)))
    go (inl m) (no i) = inl (λ q l u. none m i q l u (dec_le q k))

found : (f : ℕ → ℕ) (n a : ℕ) → 1 ≤ a → a ≤ n → Found f n (f a) n
found f n a l u = ⊎_elim (λ m. absurd (m a l u refl)) (λ s. s) (least f n (f a) n (omega arith))

-- the first class begins before the second, so the second's lowest number no longer leads
falls : (f g : ℕ → ℕ) (n a b : ℕ) → Joins f g n a b → 1 ≤ a → a ≤ n → 1 ≤ b → b ≤ n →
    (s : Found f n (f a) n) (t : Found f n (f b) n) → unfold Found in (s.0 < t.0 → (k : ℕ) → Parts g n k → Parts f n (suc k))
unfolding Found
falls f g n a b j la ua lb ub s t lt k c =
    counts_fall (Leads f n) (Leads g n) y leads (λ w. not-leads w) n t.1.0 t.1.1 both k c
  where
    x : ℕ
    x = s.0

    y : ℕ
    y = t.0

    leads : Leads f n y
    leads q l u e = t.1.3 q l u (e ∙ t.1.2)

    meet : g x ≡ g y
    meet = j.keeps x a s.1.0 s.1.1 la ua s.1.2 ∙ j.meets ∙ sym (j.keeps y b t.1.0 t.1.1 lb ub t.1.2)

    not-leads : Leads g n y → ⊥
    not-leads w = let i : y ≤ x = w x s.1.0 s.1.1 meet in omega (arith, i, lt)

    both : (p : ℕ) → 1 ≤ p → p ≤ n → p ≢ y → Leads g n p ↔ Leads f n p
    both p lp up ne = ((λ w q l u e. w q l u (j.keeps q p l u lp up e)), λ w q l u e. pick w q l u (j.only q p l u lp up e))
      where
        pick : Leads f n p → (q : ℕ) → 1 ≤ q → q ≤ n → (f q ≡ f p) ⊎ (((f q ≡ f a) × (f p ≡ f b)) ⊎ ((f q ≡ f b) × (f p ≡ f a))) → p ≤ q
        pick w q l u (inl e) = w q l u e
        pick w q l u (inr (inl e)) =
            let i : p ≤ y = w y t.1.0 t.1.1 (t.1.2 ∙ sym e.1) in
            let m : y ≤ p = t.1.3 p lp up e.1 in
            absurd (ne (le_antisymm i m))
        pick w q l u (inr (inr e)) =
            let i : p ≤ x = w x s.1.0 s.1.1 (s.1.2 ∙ sym e.1) in
            let m : y ≤ q = t.1.3 q l u e.0 in
            omega (arith, i, m, lt)

turned : (f g : ℕ → ℕ) (n a b : ℕ) → Joins f g n a b → Joins f g n b a
turned f g n a b j =
    record {
      keeps = j.keeps;
      meets = sym j.meets;
      only = λ x y lx ux ly uy e. ⊎_elim inl (λ d. inr (⊎_elim inr inl d)) (j.only x y lx ux ly uy e);
    }

pub join_law : JoinLaw
unfolding Found
join_law f g n a b la ua lb ub ne j k c = let p = go (cases_order s.0 t.0) in (p, λ m d. counts_one (Leads f n) n m (suc k) d p)
  where
    s : Found f n (f a) n
    s = found f n a la ua

    t : Found f n (f b) n
    t = found f n b lb ub

    go : (s.0 ≡ t.0) ⊎ ((s.0 < t.0) ⊎ (t.0 < s.0)) → Parts f n (suc k)
    go (inl e) = absurd (ne (sym s.1.2 ∙ ap f e ∙ t.1.2))
    go (inr (inl l)) = falls f g n a b j la ua lb ub s t l k c
    go (inr (inr l)) = falls f g n b a (turned f g n a b j) lb ub la ua t s l k c

pub parts_law : PartsLaw
parts_law P E f h k = (counts_same (Leads f (length P)) (λ p. Lowest P E p p) (length P) both k, counts_same (λ p. Lowest P E p p) (Leads f (length P)) (length P) back k)
  where
    both : (p : ℕ) → 1 ≤ p → p ≤ length P → Leads f (length P) p ↔ Lowest P E p p
    both p l u = (
      (λ w. ((h p p (l, u) (l, u)).0 refl, λ q c. w q c.1.0 c.1.1 (sym ((h p q (l, u) c.1).1 c)))),
      λ w q lq uq e. w.1 q ((h p q (l, u) (lq, uq)).0 (sym e)),
    )

    back : (p : ℕ) → 1 ≤ p → p ≤ length P → Lowest P E p p ↔ Leads f (length P) p
    back p l u = ((both p l u).1, (both p l u).0)

-- THE COUNT OF ANY LABELLING
leads_or_not : (f : ℕ → ℕ) (n p : ℕ) → 1 ≤ p → p ≤ n → Dec (Leads f n p)
unfolding Found
leads_or_not f n p l u = go (found f n p l u)
  where
    go : Found f n (f p) n → Dec (Leads f n p)
    go s = at (ℕ_discrete s.0 p)
      where
        at : Dec (s.0 ≡ p) → Dec (Leads f n p)
        at (yes e) = yes (λ q lq uq h. let i = s.1.3 q lq uq h in omega (arith, i, e))
        at (no ne) = no (λ w. ne (le_antisymm (s.1.3 p l u refl) (w s.0 s.1.0 s.1.1 s.1.2)))

pub parts_some : (f : ℕ → ℕ) (n : ℕ) → (k : ℕ) × Parts f n k
parts_some f n = counts_some (Leads f n) n (leads_or_not f n)

-- a join takes one class away
pub parts_joined : (f g : ℕ → ℕ) (n a b : ℕ) → 1 ≤ a → a ≤ n → 1 ≤ b → b ≤ n → f a ≢ f b → Joins f g n a b →
    (k : ℕ) → Parts f n k → (j : ℕ) × (k ≡ suc j) × Parts g n j
parts_joined f g n a b la ua lb ub ne j k c =
    let s = parts_some g n in
    (s.0, (join_law f g n a b la ua lb ub ne j s.0 s.1).1 k c, s.1)

-- a new number with a label of its own brings one class more
pub parts_grown : (f g : ℕ → ℕ) (n k : ℕ) → ((p : ℕ) → 1 ≤ p → p ≤ n → g p ≡ f p) → ((p : ℕ) → 1 ≤ p → p ≤ n → g p ≢ g (suc n)) → Parts f n k → Parts g (suc n) (suc k)
parts_grown f g n k same new c = inl (top, (k, refl, counts_same (Leads f n) (Leads g (suc n)) n both k c))
  where
    top : Leads g (suc n) (suc n)
    top q l u e = below (dec_le q n)
      where
        below : Dec (q ≤ n) → suc n ≤ q
        below (yes h) = absurd (new q l h e)
        below (no h) = omega arith

    both : (p : ℕ) → 1 ≤ p → p ≤ n → Leads f n p ↔ Leads g (suc n) p
    both p l u = (
      (λ w q lq uq e. up w q lq uq e (dec_le q n)),
      λ w q lq uq e. w q lq (omega arith) (same q lq uq ∙ e ∙ sym (same p l u)),
    )
      where
        up : Leads f n p → (q : ℕ) → 1 ≤ q → q ≤ suc n → g q ≡ g p → Dec (q ≤ n) → p ≤ q
        up w q lq uq e (yes h) = w q lq h (sym (same q lq h) ∙ e ∙ same p l u)
        up w q lq uq e (no h) = omega arith

-- labels of their own make as many classes as there are numbers
pub parts_alone : (f : ℕ → ℕ) (n : ℕ) → ((p q : ℕ) → 1 ≤ p → p ≤ n → 1 ≤ q → q ≤ n → f p ≡ f q → p ≡ q) → Parts f n n
parts_alone f zero h = refl
parts_alone f (suc n) h =
    parts_grown f f n n (λ p l u. refl) (λ p l u e. let i : p ≡ suc n = h p (suc n) l (omega arith) (omega arith) (omega arith) e in omega arith)
    (parts_alone f n (λ p q lp up lq uq e. h p q lp (omega arith) lq (omega arith) e))
