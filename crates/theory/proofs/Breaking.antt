-- The broken entry, the detail of a refusal and the chain that comes with it. Assumes nothing.
use Rattle.std.proofs.Common.{◌≡◌, ℕ, zero, suc, ◌+◌, ◌<◌, ◌≤◌, eqb, ◌≢◌, ◌⊎◌, List, [], ◌∷◌, ◌++◌, length, sym, refl, ap, ◌∙◌, subst, subst₂, inl, inr, append-nil, arith, length-append}
use native.Mathlib.Decide.{dec_le}
use Rattle.std.proofs.lemmas.Bool.{eq-eqb, eqb-true}
use Rattle.std.proofs.lemmas.List.Elements.{All-head, All-nil, All-tail}
use Rattle.theory.specs.Sheet.{Picture, Entry, same, differ, Reading, On, Is, value, Holds, Satisfies, Closure, First, Breaks, Broken}
use Rattle.theory.specs.Reasons.{Equivalence}
use Rattle.theory.specs.Calls.{tell, Refusal, few_cells, no_picture, full, contradiction, many_inputs, apart, number, detail, added, joined, noted, told, explained, turned, valued, refused, Content, Unless, Differs, Shown, Contradicted, Taken, Answers, refusal_number, refusal_steps, steps}
use Rattle.theory.specs.Numbers.{At}
use Rattle.theory.specs.Breaking.{BrokenLaw, DetailLaw, NoDetailLaw, WritesLaw, StepsLaw, NoStepsLaw}
use Rattle.theory.proofs.Numbers.{at_within, at_some, at_one, at_more, at_last, passed}
use Rattle.theory.proofs.Answering.{first_pair}
use Rattle.theory.proofs.Checks.{taken_zero}
use Rattle.theory.proofs.Small.{differ_law}
use Rattle.theory.proofs.Laws.{must_law}

-- THE LOWEST
first_low : (P : List Picture) (E F : List Entry) (k : ℕ) → First (Breaks P E) k F → (j a b : ℕ) → Differs j F a b → Closure P E a b → k ≤ j
first_low P E [] k h j a b d c = absurd h
first_low P E (x ∷ F) zero h j a b d c = absurd h
first_low P E (x ∷ F) (suc zero) h j a b d c = (at_within (x ∷ F) j (differ a b) d).0
first_low P E (x ∷ F) (suc (suc k)) h zero a b d c = absurd d
first_low P E (same u v ∷ F) (suc (suc k)) h (suc zero) a b d c = absurd d
first_low P E (differ u v ∷ F) (suc (suc k)) h (suc zero) a b d c = absurd (h.0 (subst₂ (λ x y. Closure P E x y) (sym d.0) (sym d.1) c))
first_low P E (x ∷ F) (suc (suc k)) h (suc (suc j)) a b d c = omega (arith, first_low P E F (suc k) h.1 (suc j) a b d c)

first_from : (P : List Picture) (E F : List Entry) (k a b : ℕ) → Differs k F a b → Closure P E a b → ((j a b : ℕ) → Differs j F a b → Closure P E a b → k ≤ j) → First (Breaks P E) k F
first_from P E [] k a b d c low = absurd d
first_from P E (x ∷ F) zero a b d c low = absurd d
first_from P E (same u v ∷ F) (suc zero) a b d c low = absurd d
first_from P E (differ u v ∷ F) (suc zero) a b d c low = subst₂ (λ x y. Closure P E x y) (sym d.0) (sym d.1) c
first_from P E (x ∷ F) (suc (suc k)) a b d c low = (not_first x low, first_from P E F (suc k) a b d c rest)
  where
    not_first : (x : Entry) → ((j a b : ℕ) → Differs j (x ∷ F) a b → Closure P E a b → suc (suc k) ≤ j) → ¬ Breaks P E x
    not_first (same u v) l z = z
    not_first (differ u v) l z = omega (arith, l 1 u v (refl, refl) z)

    rest : (j a b : ℕ) → Differs j F a b → Closure P E a b → suc k ≤ j
    rest zero a b d c = absurd (omega (arith, (at_within F zero (differ a b) d).0))
    rest (suc j) a b d c = omega (arith, low (suc (suc j)) a b d c)

pub broken_law : BrokenLaw
broken_law P E k = (
  (λ h. let p = first_pair P E E k h in ((p.0, p.1, p.2, p.3), first_low P E E k h)),
  (λ h. first_from P E E k h.0.0 h.0.1 h.0.2 h.0.3 h.1),
)

-- A REFUSAL AS A CONTRADICTION
other : (bad : Type 0) (f g : Refusal) (next : Type 0) → number f ≡ 4 → number g ≢ 4 → Unless bad g (refused f) next → next
other bad f g next e n (inl h) = absurd (n (sym (ap refusal_number h.1) ∙ e))
other bad f g next e n (inr h) = h.1

not_four : (n : ℕ) → n < 4 → n ≢ 4
not_four n l e = omega arith

module _ (cap : ℕ) (s : Content) (e : Entry) (cells : ℕ) (f : Refusal) (four : number f ≡ 4) (h : Answers cap s (tell e cells) (refused f)) where
  abbrev P : List Picture
  P = s.pictures

  abbrev E : List Entry
  E = s.entries

  abbrev F : List Entry
  F = s.entries ++ (e ∷ [])

  contradicted : Contradicted P F (refused f)
  contradicted = last (other _ f _ _ four (not_four 3 (omega arith)) (other _ f _ _ four (not_four 2 (omega arith)) (other _ f _ _ four (not_four 1 (omega arith)) h)))
    where
      last : {I J : Type 0} → (I × Contradicted P F (refused f)) ⊎ (J × Taken P E e (refused f)) → Contradicted P F (refused f)
      last (inl x) = x.1
      last (inr x) = absurd (not_four 0 (omega arith) (sym (taken_zero P E e (refused f) x.1) ∙ four))

  is : f ≡ contradiction contradicted.0 contradicted.1
  is = same-refusal f _ contradicted.7
    where
      same-refusal : (f g : Refusal) → refused f ≡ refused g → f ≡ g
      same-refusal f g e = cc

  detail_is : detail f ≡ contradicted.0
  detail_is = ap detail is

  broken : Broken P F (detail f)
  broken = subst (λ j. Broken P F j) (sym detail_is) contradicted.4

  there : Differs (detail f) F contradicted.2 contradicted.3
  there = subst (λ j. Differs j F contradicted.2 contradicted.3) (sym detail_is) contradicted.5

  named : (a b : ℕ) × Differs (detail f) F a b
  named = (contradicted.2, contradicted.3, there)

  shown : (a b : ℕ) → Differs (detail f) F a b → Shown P F a b (refusal_steps f)
  shown a b d =
      let q = at_one F (detail f) (differ contradicted.2 contradicted.3) (differ a b) there d in
      subst (λ n. Shown P F a b n) (sym (ap refusal_steps is)) (subst₂ (λ x y. Shown P F x y contradicted.1) (left q) (right q) contradicted.6)
    where
      left : {x y u v : ℕ} → differ x y ≡ differ u v → x ≡ u
      left q = cc

      right : {x y u v : ℕ} → differ x y ≡ differ u v → y ≡ v
      right q = cc

  within : (1 ≤ detail f) × (detail f ≤ length E + 1)
  within =
      let w = at_within F (detail f) (differ contradicted.2 contradicted.3) there in
      (w.0, omega (arith, w.1, length-append E (e ∷ [])))

  last_at : (n : ℕ) → n ≡ length E + 1 → (a b : ℕ) → Differs n F a b → e ≡ differ a b
  last_at n q a b d = at_one F (length E + 1) e (differ a b) (subst (λ G. AtEnd G) (append-nil F) (at_last E [] e)) (subst (λ m. Differs m F a b) q d)
    where
      AtEnd : List Entry → Type 0
      AtEnd G = At (length E + 1) G e

-- what a satisfying reading says of a `differ` entry
apart_at : (r : Reading) (P : List Picture) (E : List Entry) (k a b : ℕ) → Satisfies r P E → Differs k E a b → value r P a ≢ value r P b
apart_at r P [] k a b h d = absurd d
apart_at r P (x ∷ E) zero a b h d = absurd d
apart_at r P (same u v ∷ E) (suc zero) a b h d = absurd d
apart_at r P (differ u v ∷ E) (suc zero) a b h d = subst₂ (λ x y. value r P x ≢ value r P y) d.0 d.1 (All-head (Holds r P) (differ u v) E h)
apart_at r P (x ∷ E) (suc (suc k)) a b h d = apart_at r P E (suc k) a b (All-tail (Holds r P) x E h) d

pub detail_law : DetailLaw
detail_law cap s w sat a b cells f four = (own, earlier)
  where
    P : List Picture
    P = s.pictures

    E : List Entry
    E = s.entries

    own : Answers cap s (tell (differ a b) cells) (refused f) → detail f ≡ length E + 1
    own h = go (dec_le (detail f) (length E))
      where
        F : List Entry
        F = E ++ (differ a b ∷ [])

        p : (u v : ℕ) × Differs (detail f) F u v × Closure P F u v
        p = first_pair P F F (detail f) (broken cap s (differ a b) cells f four h)

        in-front : detail f ≤ length E → Differs (detail f) E p.0 p.1
        in-front l =
            let x = at_some E (detail f) (within cap s (differ a b) cells f four h).0 l in
            let q = at_one F (detail f) x.0 (differ p.0 p.1) (at_more E (differ a b ∷ []) (detail f) x.0 x.1) p.2 in
            subst (λ y. At (detail f) E y) q x.1

        go : Dec (detail f ≤ length E) → detail f ≡ length E + 1
        go (yes l) =
            absurd (apart_at sat.0 P E (detail f) p.0 p.1 sat.1 (in-front l)
            ((must_law P E w sat p.0 p.1 p.3.0 p.3.1).0 ((differ_law P E a b p.0 p.1).1 p.3) sat.0 sat.1))
        go (no n) = omega (arith, n, (within cap s (differ a b) cells f four h).1)

    earlier : Answers cap s (tell (same a b) cells) (refused f) → (1 ≤ detail f) × (detail f ≤ length E)
    earlier h = ((within cap s (same a b) cells f four h).0, go (dec_le (detail f) (length E)))
      where
        d : (u v : ℕ) × Differs (detail f) (E ++ (same a b ∷ [])) u v
        d = named cap s (same a b) cells f four h

        never : {x y u v : ℕ} → ¬ (same x y ≡ differ u v)
        never q = let z : ◌≡◌ {A = ℕ} 0 1 = cc in omega arith

        at_end : ¬ (detail f ≤ length E) → detail f ≡ length E + 1
        at_end n = omega (arith, n, (within cap s (same a b) cells f four h).1)

        go : Dec (detail f ≤ length E) → detail f ≤ length E
        go (yes l) = l
        go (no n) = absurd (never (last_at cap s (same a b) cells f four h (detail f) (at_end n) d.0 d.1 d.2))

pub no_detail_law : NoDetailLaw
no_detail_law few_cells n = (refl, refl)
no_detail_law no_picture n = (refl, refl)
no_detail_law full n = (refl, refl)
no_detail_law (contradiction k m) n = absurd (n refl)
no_detail_law many_inputs n = (refl, refl)
no_detail_law apart n = (refl, refl)

-- THE CHAIN
pub writes_law : WritesLaw
writes_law (added n m) h = absurd (h refl)
writes_law (joined n j) h = absurd (h refl)
writes_law (noted n) h = absurd (h refl)
writes_law (told b) h = absurd (h refl)
writes_law (explained n) h = inl (n, refl)
writes_law turned h = absurd (h refl)
writes_law (valued v) h = absurd (h refl)
writes_law (refused few_cells) h = absurd (h refl)
writes_law (refused no_picture) h = absurd (h refl)
writes_law (refused full) h = absurd (h refl)
writes_law (refused (contradiction k n)) h = inr refl
writes_law (refused many_inputs) h = absurd (h refl)
writes_law (refused apart) h = absurd (h refl)

pub steps_law : StepsLaw
steps_law cap s cells = (
  (λ e f four h. (named cap s e cells f four h, shown cap s e cells f four h)),
  (λ a b r n h.
      let x = passed _ _ r _ n (passed _ _ r _ n (passed _ _ r _ n h)) in
      subst (λ m. Shown s.pictures s.entries a b m) (sym (ap steps x.2)) x.1),
)

pub no_steps_law : NoStepsLaw
no_steps_law P E a b = (
  (λ x. (x.1.0, eqb-true a b (x.1.2 eqb equal (All-nil _)))),
  (λ x. (tt, (x.0, subst (λ y. On P y) x.1 x.0, λ R g t. subst (λ y. Is R a y) x.1 (g.reflexive a x.0)))),
)
  where
    equal : Equivalence P eqb
    equal =
        record {
          reflexive = λ x o. eq-eqb x x refl;
          symmetric = λ x y o q h. eq-eqb y x (sym (eqb-true x y h));
          transitive = λ x y z o q p h k. eq-eqb x z (eqb-true x y h ∙ eqb-true y z k);
        }
