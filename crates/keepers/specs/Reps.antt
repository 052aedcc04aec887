-- The laws of `rep`.
use Rattle.std.specs.Prelude.{◌≡◌, ℕ, zero, suc, ◌+◌, ◌≢◌, List, [], ◌∷◌, ◌++◌, map, length, Ok, Err, Result, ◌==◌, refl}
use Rattle.std.proofs.Common.{sym, ◌∙◌, ap, inl, inr, ⊎_elim, arith}
use Rattle.std.proofs.lemmas.List.{get_or-map, get_or_append_left, get_or_push, length-map, length_push}
use Rattle.std.proofs.lemmas.Bool.{cases_eq, cond-true, cond-false, eq-eqb, ne_eqb}
use Rattle.keepers.specs.declared.keeper.KeeperFault.{KeeperFault}
use Rattle.keepers.specs.declared.keeper.Outcome.{Outcome}
use Rattle.keepers.specs.declared.keeper.Outcome.TheVariants.{Already, Merged}
use Rattle.keepers.specs.Meaning.{rep, Within, Settled, moved, Unites, Did, Joined}

pub rep_map : (f : ℕ → ℕ) (rs : List ℕ) (p : ℕ) → Within rs p → rep (map f rs) p ≡ f (rep rs p)
rep_map f rs zero w = absurd (omega arith)
rep_map f rs (suc i) w = get_or-map f rs i 0 0 (omega arith)

pub rep_old : (rs : List ℕ) (x p : ℕ) → Within rs p → rep (rs ++ x ∷ []) p ≡ rep rs p
rep_old rs x zero w = absurd (omega arith)
rep_old rs x (suc i) w = get_or_append_left rs (x ∷ []) 0 i (omega arith)

pub rep_new : (rs : List ℕ) (x p : ℕ) → p ≡ length rs + 1 → rep (rs ++ x ∷ []) p ≡ x
rep_new rs x zero e = absurd (omega arith)
rep_new rs x (suc i) e = get_or_push rs x 0 i (omega arith)

-- a new picture represents itself
pub settled_push : (rs : List ℕ) (x : ℕ) → x ≡ length rs + 1 → Settled rs → Settled (rs ++ x ∷ [])
settled_push rs x e s p w =
    let n = length_push rs x in
    ⊎_elim
    (λ q. let r = rep_new rs x p (q ∙ e) in ((omega arith, omega arith), ap (rep (rs ++ x ∷ [])) (r ∙ sym q)))
    (λ ne.
    let v : Within rs p = (w.0, omega arith) in
    let r = rep_old rs x p v in
    let h = s p v in
    ((omega arith, omega arith), ap (rep (rs ++ x ∷ [])) r ∙ (rep_old rs x (rep rs p) h.0 ∙ (h.1 ∙ sym r))))
    (cases_eq p x)

pub moved_hit : (lost kept r : ℕ) → r ≡ lost → moved lost kept r ≡ kept
moved_hit lost kept r e = cond-true (r == lost) kept r (eq-eqb r lost e)

pub moved_miss : (lost kept r : ℕ) → r ≢ lost → moved lost kept r ≡ r
moved_miss lost kept r ne = cond-false (r == lost) kept r (ne_eqb r lost ne)

-- one representative takes the place of another
pub settled_map : (rs : List ℕ) (lost kept : ℕ) → Within rs kept → rep rs kept ≡ kept → lost ≢ kept → Settled rs → Settled (map (moved lost kept) rs)
settled_map rs lost kept wk ek ne s p w =
    let n = length-map rs (moved lost kept) in
    let v : Within rs p = (w.0, omega arith) in
    let h = s p v in
    let m = rep_map (moved lost kept) rs p v in
    let to : (r : ℕ) → rep (map (moved lost kept) rs) p ≡ r → Within rs r → rep (map (moved lost kept) rs) r ≡ r → Within (map (moved lost kept) rs) (rep (map (moved lost kept) rs) p) × (rep (map (moved lost kept) rs) (rep (map (moved lost kept) rs) p) ≡ rep (map (moved lost kept) rs) p)
    = λ r e u f. ((omega arith, omega arith), ap (rep (map (moved lost kept) rs)) e ∙ (f ∙ sym e)) in
    ⊎_elim
    (λ q. to kept (m ∙ moved_hit lost kept (rep rs p) q) wk (rep_map (moved lost kept) rs kept wk ∙ (ap (moved lost kept) ek ∙ moved_miss lost kept kept (λ z. ne (sym z)))))
    (λ o. to (rep rs p) (m ∙ moved_miss lost kept (rep rs p) o) h.0 (rep_map (moved lost kept) rs (rep rs p) h.0 ∙ (ap (moved lost kept) h.1 ∙ moved_miss lost kept (rep rs p) o)))
    (cases_eq (rep rs p) lost)

-- what a join shows, by the representatives a and b that it found
pub joined_left : (p q a b : ℕ) (rs rs' : List ℕ) → a ≡ rep rs p → b ≡ rep rs q → a ≢ b → rs' ≡ map (moved b a) rs → (rep rs p ≢ rep rs q) × Unites p q rs rs'
joined_left p q a b rs rs' ea eb ne e = ((λ z. ne (ea ∙ (z ∙ sym eb))), inl (rw (ea, eb) at e))

pub joined_right : (p q a b : ℕ) (rs rs' : List ℕ) → a ≡ rep rs p → b ≡ rep rs q → a ≢ b → rs' ≡ map (moved a b) rs → (rep rs p ≢ rep rs q) × Unites p q rs rs'
joined_right p q a b rs rs' ea eb ne e = ((λ z. ne (ea ∙ (z ∙ sym eb))), inr (rw (ea, eb) at e))

-- after a join the two have one representative
pub united : (p q : ℕ) (rs rs' : List ℕ) → Within rs p → Within rs q → rep rs p ≢ rep rs q → Unites p q rs rs' → rep rs' p ≡ rep rs' q
united p q rs rs' wp wq ne u =
    let is : (f : ℕ → ℕ) (x : ℕ) → rs' ≡ map f rs → Within rs x → rep rs' x ≡ f (rep rs x) = λ f x e w. ap (λ (r : List ℕ). rep r x) e ∙ rep_map f rs x w in
    ⊎_elim
    (λ e. is _ p e wp ∙ (moved_miss (rep rs q) (rep rs p) (rep rs p) ne ∙ sym (is _ q e wq ∙ moved_hit (rep rs q) (rep rs p) (rep rs q) refl)))
    (λ e. is _ p e wp ∙ (moved_hit (rep rs p) (rep rs q) (rep rs p) refl ∙ sym (is _ q e wq ∙ moved_miss (rep rs p) (rep rs q) (rep rs q) (λ z. ne (sym z)))))
    u

pub together : (p q : ℕ) (rs rs' : List ℕ) (o : Outcome) → Within rs p → Within rs q → Did p q rs rs' o → rep rs' p ≡ rep rs' q
together p q rs rs' Already wp wq j = ap (λ (r : List ℕ). rep r p) j.1 ∙ (j.0 ∙ ap (λ (r : List ℕ). rep r q) (sym j.1))
together p q rs rs' Merged wp wq j = united p q rs rs' wp wq j.0 j.1

-- a join leaves the count
pub united_length : (p q : ℕ) (rs rs' : List ℕ) → Unites p q rs rs' → length rs' ≡ length rs
united_length p q rs rs' u = ⊎_elim (λ e. ap length e ∙ length-map rs (moved (rep rs q) (rep rs p))) (λ e. ap length e ∙ length-map rs (moved (rep rs p) (rep rs q))) u

pub joined_length : (p q : ℕ) (rs rs' : List ℕ) (r : Result Outcome KeeperFault) → Joined p q rs rs' r → length rs' ≡ length rs
joined_length p q rs rs' (Ok Already) j = ap length j.2.1
joined_length p q rs rs' (Ok Merged) j = united_length p q rs rs' j.2.1
joined_length p q rs rs' (Err e) j = ap length j.2
