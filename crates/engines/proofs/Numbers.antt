-- What the checks of numbers say. Assumes nothing.
use Rattle.std.proofs.Common.{◌≡◌, ℕ, Bool, true, false, ◌||◌, eqb, ltb, List, [], ◌∷◌, All, sym, refl, ap, ◌∙◌, ⊎_elim, arith}
use Rattle.std.proofs.lemmas.Bool.{or_parts, eqb-true, eqb-false, ltb-true, ltb-false, both_ways, cases_Bool}
use Rattle.std.proofs.lemmas.List.Elements.{All-nil, All-cons, All-head, All-tail}
use Rattle.keepers.specs.Meaning.{Upto}
use Rattle.engines.specs.Checks.{absent, any_absent, Both}

pub present : (n p : ℕ) → absent n p ≡ false → Upto n p
present n p h =
    let e = or_parts (eqb p 0) (ltb n p) h in
    let a = eqb-false p 0 e.0 in
    let b = ltb-false n p e.1 in
    (omega arith, omega arith)

pub not_present : (n p : ℕ) → absent n p ≡ true → ¬ Upto n p
not_present n p h u =
    ⊎_elim
    (λ e. let a = eqb-true p 0 e in omega (arith, a, u.0))
    (λ e. ⊎_elim
    (λ t. let b = ltb-true n p t in omega (arith, b, u.1))
    (λ t. both_ways (absent n p) (ap (λ (b : Bool). b || ltb n p) e ∙ t) h)
    (cases_Bool (ltb n p)))
    (cases_Bool (eqb p 0))

pub all_present : (n : ℕ) (ps : List ℕ) → any_absent n ps ≡ false → All (Upto n) ps
all_present n [] h = All-nil (Upto n)
all_present n (p ∷ ps) h =
    let e = or_parts (absent n p) (any_absent n ps) h in
    All-cons (Upto n) p ps (present n p e.0) (all_present n ps e.1)

pub not_all_present : (n : ℕ) (ps : List ℕ) → any_absent n ps ≡ true → ¬ All (Upto n) ps
not_all_present n [] h a = both_ways false refl h
not_all_present n (p ∷ ps) h a =
    ⊎_elim
    (λ e. not_present n p e (All-head (Upto n) p ps a))
    (λ e. not_all_present n ps (ap (λ (b : Bool). b || any_absent n ps) (sym e) ∙ h) (All-tail (Upto n) p ps a))
    (cases_Bool (absent n p))

pub both_present : (n a b : ℕ) → absent n a ≡ false → absent n b ≡ false → Both n a b
both_present n a b h k = (present n a h, present n b k)
