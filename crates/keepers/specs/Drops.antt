-- A union leaves one class less.
use Rattle.std.specs.Prelude.{◌≡◌, ℕ, zero, suc, ◌+◌, Bool, cond, ◌≢◌, List, map, length, ◌==◌, nat_eq, refl}
use Rattle.std.proofs.Common.{sym, ◌∙◌, ap, ⊎_elim, add-zero, arith}
use Rattle.std.proofs.lemmas.List.{length-map}
use Rattle.std.proofs.lemmas.Bool.{cases_eq, eq-eqb, ne_eqb}
use Rattle.keepers.specs.Meaning.{Upto, rep, Within, Settled, moved, Unites, Did, outcome_number, ends, class_count}
use Rattle.keepers.specs.declared.keeper.Outcome.{Outcome}
use Rattle.keepers.specs.declared.keeper.Outcome.TheVariants.{Already, Merged}
use Rattle.keepers.specs.Reps.{rep_map, moved_hit, moved_miss}

same_ends : (rs ss : List ℕ) (m : ℕ) → ((x : ℕ) → Upto m x → (rep rs x == x) ≡ (rep ss x == x)) → ends rs m ≡ ends ss m
same_ends rs ss zero h = refl
same_ends rs ss (suc m) h =
    let i = same_ends rs ss m (λ x w. h x (w.0, omega arith)) in
    let e : cond {A = ℕ} (rep rs (suc m) == suc m) 1 0 ≡ cond {A = ℕ} (rep ss (suc m) == suc m) 1 0 = ap (λ (b : Bool). cond {A = ℕ} b 1 0) (h (suc m) (omega arith, omega arith)) in
    omega arith

one_less : (rs ss : List ℕ) (l m : ℕ) → Upto m l → rep rs l ≡ l → rep ss l ≢ l → ((x : ℕ) → Upto m x → x ≢ l → (rep rs x == x) ≡ (rep ss x == x)) → ends ss m + 1 ≡ ends rs m
one_less rs ss l zero w fl gl h = absurd (omega arith)
one_less rs ss l (suc m) w fl gl h =
    ⊎_elim
    (λ e.
    let i = same_ends rs ss m (λ x v. h x (v.0, omega arith) (omega arith)) in
    let a : cond {A = ℕ} (rep rs (suc m) == suc m) 1 0 ≡ 1 = ap (λ (b : Bool). cond {A = ℕ} b 1 0) (eq-eqb (rep rs (suc m)) (suc m) (ap (rep rs) e ∙ (fl ∙ sym e))) in
    let b : cond {A = ℕ} (rep ss (suc m) == suc m) 1 0 ≡ 0 = ap (λ (b : Bool). cond {A = ℕ} b 1 0) (ne_eqb (rep ss (suc m)) (suc m) (λ q. gl (ap (rep ss) (sym e) ∙ (q ∙ e)))) in
    omega arith)
    (λ ne.
    let i = one_less rs ss l m (w.0, omega arith) fl gl (λ x v o. h x (v.0, omega arith) o) in
    let e : cond {A = ℕ} (rep rs (suc m) == suc m) 1 0 ≡ cond {A = ℕ} (rep ss (suc m) == suc m) 1 0 = ap (λ (b : Bool). cond {A = ℕ} b 1 0) (h (suc m) (omega arith, omega arith) ne) in
    omega arith)
    (cases_eq (suc m) l)

pub moved_ends : (lost kept : ℕ) (rs : List ℕ) → Within rs lost → rep rs lost ≡ lost → rep rs kept ≡ kept → kept ≢ lost → class_count (map (moved lost kept) rs) + 1 ≡ class_count rs
moved_ends lost kept rs w el ek ne =
    let f = moved lost kept in
    let ss = map f rs in
    ap (λ (m : ℕ). ends ss m + 1) (length-map rs f)
    ∙ one_less rs ss lost (length rs) w el
    (λ e. ne (sym (rep_map f rs lost w ∙ moved_hit lost kept (rep rs lost) el) ∙ e))
    (λ x v o.
    ⊎_elim
    (λ e.
    let t = rep_map f rs x v ∙ moved_hit lost kept (rep rs x) e in
    ne_eqb (rep rs x) x (λ q. o (sym q ∙ e)) ∙ sym (ne_eqb (rep ss x) x (λ q. let z : kept ≡ x = sym t ∙ q in ne (sym ek ∙ (ap (rep rs) z ∙ e)))))
    (λ k. ap (λ (v : ℕ). nat_eq v x) (sym (rep_map f rs x v ∙ moved_miss lost kept (rep rs x) k)))
    (cases_eq (rep rs x) lost))

pub fewer : (p q : ℕ) (rs rs' : List ℕ) → Settled rs → Within rs p → Within rs q → rep rs p ≢ rep rs q → Unites p q rs rs' → class_count rs' + 1 ≡ class_count rs
fewer p q rs rs' s wp wq ne u =
    let a = s p wp in
    let b = s q wq in
    ⊎_elim
    (λ e. ap (λ (r : List ℕ). class_count r + 1) e ∙ moved_ends (rep rs q) (rep rs p) rs b.0 b.1 a.1 ne)
    (λ e. ap (λ (r : List ℕ). class_count r + 1) e ∙ moved_ends (rep rs p) (rep rs q) rs a.0 a.1 b.1 (λ z. ne (sym z)))
    u

-- a join lowers the number of classes by the number that it answers
pub lowers : (p q : ℕ) (rs rs' : List ℕ) (o : Outcome) → Settled rs → Within rs p → Within rs q → Did p q rs rs' o → class_count rs' + outcome_number o ≡ class_count rs
lowers p q rs rs' Already s wp wq d = add-zero (class_count rs') ∙ ap class_count d.1
lowers p q rs rs' Merged s wp wq d = fewer p q rs rs' s wp wq d.0 d.1
