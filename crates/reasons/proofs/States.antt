-- The marked steps of a chain, one more at a time, and the classes that they make. Assumes nothing.
use Rattle.std.proofs.Common.{◌≡◌, ℕ, zero, suc, ◌+◌, ◌<◌, ◌≤◌, Bool, true, false, List, [], ◌∷◌, map, length, get_or, drop, replicate, All, sym, refl, ap, ◌∙◌, subst, subst₂, ⊎_elim, arith}
use Rattle.std.specs.List.{range_with_len, AllZip}
use Rattle.std.proofs.lemmas.List.Elements.{All-nil, All-cons, All-head, All-tail}
use Rattle.std.proofs.lemmas.List.{drop_more, drop_all}
use Rattle.std.proofs.lemmas.List.FromFn.{length-range_with_len, get_or-range_with_len}
use Rattle.std.proofs.lemmas.Bool.{cases_eq, cond-true, cond-false, eq-eqb, ne_eqb}
use Rattle.theory.specs.Sheet.{Picture, Entry, On, Is, inputs}
use Rattle.theory.specs.Reasons.{Reason, by_entry, by_twins, left, right, JoinedBy, Fits, Derivation}
use Rattle.theory.specs.Slices.{kept, Propped, Supported}
use Rattle.theory.proofs.Slices.{l_refl}
use Rattle.theory.proofs.Few.{Reps, reps_linked, reps-step, joined_at}
use Rattle.keepers.specs.declared.keeper.Outcome.{Outcome}
use Rattle.keepers.specs.declared.keeper.Outcome.TheVariants.{Already, Merged}
use Rattle.keepers.specs.Meaning.{rep, Within, Did, moved}
use Rattle.keepers.specs.Reps.{rep_map, united_length}
use Rattle.reasons.specs.Marks.{Enough, Alike, Stands, Absorbed}
use Rattle.reasons.proofs.Marked.{kept_true}

-- representatives that agree on the pictures
reps_same : (P : List Picture) (S : List Reason) (f g : ℕ → ℕ) → ((x : ℕ) → On P x → f x ≡ g x) → Reps P S f → Reps P S g
reps_same P S f g e h =
    record {
      on = λ x o. subst (λ z. On P z) (e x o) (h.on x o);
      own = λ x o. ap g (sym (e x o)) ∙ sym (e (f x) (h.on x o)) ∙ h.own x o ∙ e x o;
      told = λ x o. subst (λ z. JoinedBy P S x z) (e x o) (h.told x o);
    }

module _ (P : List Picture) (S : List Reason) (s : Reason) (ol : On P (left s)) (or : On P (right s)) where
  -- a step joins as well the other way round
  turned : (f : ℕ → ℕ) → Reps P (by_twins (right s) (left s) ∷ S) f → Reps P (s ∷ S) f
  turned f h =
      record {
        on = h.on;
        own = h.own;
        told = λ x o. let j = h.told x o in (
          j.0,
          j.1,
          λ R g m. j.2 R g (All-cons (λ z. Is R (left z) (right z)) (by_twins (right s) (left s)) S
              (g.symmetric _ _ ol or (All-head (λ z. Is R (left z) (right z)) s S m)) (All-tail (λ z. Is R (left z) (right z)) s S m)),
        );
      }

  module _ (rs : List ℕ) (n : length rs ≡ length P) (h : Reps P S (rep rs)) where
    within : (x : ℕ) → On P x → Within rs x
    within x o = (o.0, omega (arith, n, o.1))

    unmoved : (x : ℕ) → rep rs (left s) ≡ rep rs (right s) → joined_at (rep rs) (left s) (right s) x ≡ rep rs x
    unmoved x e =
        ⊎_elim
        (λ q. cond-true _ _ _ (eq-eqb (rep rs x) (rep rs (left s)) q) ∙ sym (q ∙ e))
        (λ m. cond-false _ _ _ (ne_eqb (rep rs x) (rep rs (left s)) m))
        (cases_eq (rep rs x) (rep rs (left s)))

    mapped : (f : ℕ → ℕ) (rs' : List ℕ) → rs' ≡ map f rs → (x : ℕ) → On P x → f (rep rs x) ≡ rep rs' x
    mapped f rs' e x o = sym (ap (λ (r : List ℕ). rep r x) e ∙ rep_map f rs x (within x o))

    -- the classes after a join
    pub reps-did : (rs' : List ℕ) (o : Outcome) → Did (left s) (right s) rs rs' o → Reps P (s ∷ S) (rep rs')
    reps-did rs' Already d =
        reps_same P (s ∷ S) _ (rep rs') (λ x o. unmoved x d.0 ∙ ap (λ (r : List ℕ). rep r x) (sym d.1)) (reps-step P S (rep rs) h s ol or)
    reps-did rs' Merged d =
        ⊎_elim
        (λ e. turned (rep rs') (reps_same P _ _ (rep rs') (mapped (moved (rep rs (right s)) (rep rs (left s))) rs' e) (reps-step P S (rep rs) h (by_twins (right s) (left s)) or ol)))
        (λ e. reps_same P (s ∷ S) _ (rep rs') (mapped (moved (rep rs (left s)) (rep rs (right s))) rs' e) (reps-step P S (rep rs) h s ol or))
        d.1

did_length : (l r : ℕ) (rs rs' : List ℕ) (o : Outcome) → Did l r rs rs' o → length rs' ≡ length rs
did_length l r rs rs' Already d = ap length d.1
did_length l r rs rs' Merged d = united_length l r rs rs' d.1

module _ (P : List Picture) (S : List Reason) (rs : List ℕ) (n : length rs ≡ length P) (h : Reps P S (rep rs)) where
  on : (x : ℕ) → Within rs x → On P x
  on x w = (w.0, omega (arith, n, w.1))

  -- what is in one class is joined
  pub joined : (x y : ℕ) → Alike rs x y → JoinedBy P S x y
  joined x y a = reps_linked P S (rep rs) h x y (on x a.0) (on y a.1) a.2

  rows : (xs ys : List ℕ) → AllZip (Alike rs) xs ys → AllZip (JoinedBy P S) xs ys
  rows [] [] e = tt
  rows [] (y ∷ ys) e = absurd e
  rows (x ∷ xs) [] e = absurd e
  rows (x ∷ xs) (y ∷ ys) e = (joined x y e.0, rows xs ys e.1)

  propped : (s : Reason) → Stands P rs s → Propped P S s
  propped (by_entry l r k) a = tt
  propped (by_twins l r) a = rows (inputs P l) (inputs P r) a

abbrev Meets : (ℕ → ℕ → Bool) → Reason → Type 0
Meets R s = Is R (left s) (right s)

-- the marked steps before i are `steps`, and the representatives rs tell what they join
pub record State (P : List Picture) (T : List Reason) (bs : List Bool) (i : ℕ) (rs : List ℕ) : Type 0 where
  pub steps : List Reason
  pub counted : length rs ≡ length P
  pub reps : Reps P steps (rep rs)
  pub goes : Supported P steps (drop i bs) (drop i T) → Supported P [] bs T
  pub part : (R : ℕ → ℕ → Bool) → All (Meets R) (kept bs T) → All (Meets R) steps × All (Meets R) (kept (drop i bs) (drop i T))

-- at the start each picture is alone
pub state_none : (P : List Picture) (T : List Reason) (bs : List Bool) (rs : List ℕ) → rs ≡ range_with_len 1 (length P) → State P T bs 0 rs
state_none P T bs rs e =
    record {
      steps = [];
      counted = ap length e ∙ length-range_with_len 1 (length P);
      reps = reps_same P [] (λ x. x) (rep rs) (λ x o. sym (ap (λ (r : List ℕ). rep r x) e ∙ itself x o)) (record { on = λ x o. o; own = λ x o. refl; told = λ x o. l_refl P [] x o });
      goes = λ u. u;
      part = λ R a. (All-nil (Meets R), a);
    }
  where
    itself : (x : ℕ) → On P x → rep (range_with_len 1 (length P)) x ≡ x
    itself zero o = absurd (omega arith)
    itself (suc x) o = get_or-range_with_len 1 (length P) x 0 (omega arith) ∙ omega arith

module _ (P : List Picture) (T : List Reason) (bs : List Bool) (i : ℕ) (d : Reason) (lt : i < length T) (lb : i < length bs) (rs : List ℕ) (h : State P T bs i rs) where
  -- a step more that is not marked
  pub state_no : get_or bs i false ≡ false → State P T bs (i + 1) rs
  state_no t =
      record {
        steps = h.steps;
        counted = h.counted;
        reps = h.reps;
        goes = λ u. h.goes (subst₂ (λ x y. Supported P h.steps x y) (sym eb) (sym et) u);
        part = λ R a. ((h.part R a).0, subst₂ (λ x y. All (Meets R) (kept x y)) eb et (h.part R a).1);
      }
    where
      eb : drop i bs ≡ false ∷ drop (i + 1) bs
      eb = drop_more bs i false lb ∙ ap (λ z. z ∷ drop (i + 1) bs) t

      et : drop i T ≡ get_or T i d ∷ drop (i + 1) T
      et = drop_more T i d lt

  -- a marked step more
  pub state_yes : (rs' : List ℕ) → get_or bs i false ≡ true → Absorbed P (get_or T i d) rs rs' → State P T bs (i + 1) rs'
  state_yes rs' t a =
      record {
        steps = s ∷ h.steps;
        counted = did_length (left s) (right s) rs rs' a.outcome a.did ∙ h.counted;
        reps = reps-did P h.steps s (on P h.steps rs h.counted h.reps (left s) a.on.0) (on P h.steps rs h.counted h.reps (right s) a.on.1) rs h.counted h.reps rs' a.outcome a.did;
        goes = λ u. h.goes (subst₂ (λ x y. Supported P h.steps x y) (sym eb) (sym et) (propped P h.steps rs h.counted h.reps s a.stands, u));
        part = λ R m.
            let later = kept (drop (i + 1) bs) (drop (i + 1) T) in
            let r : All (Meets R) (s ∷ later) = subst₂ (λ x y. All (Meets R) (kept x y)) eb et (h.part R m).1 in
            (All-cons (Meets R) s h.steps (All-head (Meets R) s later r) (h.part R m).0, All-tail (Meets R) s later r);
      }
    where
      s : Reason
      s = get_or T i d

      eb : drop i bs ≡ true ∷ drop (i + 1) bs
      eb = drop_more bs i false lb ∙ ap (λ z. z ∷ drop (i + 1) bs) t

      et : drop i T ≡ get_or T i d ∷ drop (i + 1) T
      et = drop_more T i d lt

supported_none : (P : List Picture) (S : List Reason) (bs : List Bool) → Supported P S bs []
supported_none P S [] = tt
supported_none P S (b ∷ bs) = tt

-- at the end the marked steps are enough for what is in one class
pub state_all : (P : List Picture) (T : List Reason) (bs : List Bool) (i : ℕ) (rs : List ℕ) → State P T bs i rs → length T ≤ i → (a b : ℕ) → Alike rs a b → Enough P T a b bs
state_all P T bs i rs h l a b w = (
  h.goes (subst (λ x. Supported P h.steps (drop i bs) x) (sym (drop_all i T l)) (supported_none P h.steps (drop i bs))),
  let k = joined P h.steps rs h.counted h.reps a b w in (k.0, k.1, λ R g m. k.2 R g (h.part R m).0),
)

all_supported : (P : List Picture) (E : List Entry) (S T : List Reason) → Derivation P E S T → (n : ℕ) → Supported P S (replicate n true) T
all_supported P E S T c zero = tt
all_supported P E S [] c (suc n) = tt
all_supported P E S (s ∷ T) c (suc n) = (prop s c.0, all_supported P E (s ∷ S) T c.2 n)
  where
    prop : (s : Reason) → Fits P E S s → Propped P S s
    prop (by_entry l r k) f = tt
    prop (by_twins l r) f = f.2.1

-- all steps of a chain are enough for what it joins
pub enough_all : (P : List Picture) (E : List Entry) (T : List Reason) (a b n : ℕ) → length T ≤ n → Derivation P E [] T → JoinedBy P T a b → Enough P T a b (replicate n true)
enough_all P E T a b n l c j = (all_supported P E [] T c n, subst (λ z. JoinedBy P z a b) (sym (kept_true n T l)) j)
