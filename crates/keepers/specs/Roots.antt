-- The laws of `root`: it is the one function that goes along the links and stays where they end. Assumes nothing.
use Rattle.std.specs.Prelude.{◌≡◌, ℕ, zero, suc, ◌+◌, ◌≤◌, List, map, length, refl}
use Rattle.std.proofs.Common.{sym, ◌∙◌, ap, subst, ⊎_elim, arith}
use Rattle.std.proofs.lemmas.List.{get_or-map, length-map, map-id, ext_get_or}
use Rattle.std.proofs.lemmas.List.FromFn.{length-map-range_with_len, get_or-map-range_with_len}
use Rattle.std.specs.List.{range_with_len}
use Rattle.std.proofs.lemmas.Bool.{cases_eq}
use Rattle.keepers.specs.declared.link.Link.{Link}
use Rattle.keepers.specs.Meaning.{Upto, rep, Settled}
use Rattle.keepers.specs.Links.{parent, rank, climb, root, roots, Rising}

-- ranks are at most n
abbrev pub Bounded : ℕ → List Link → Type 0
Bounded n ls = (x : ℕ) → Upto n x → rank ls x ≤ n

-- a function that goes along the links, and stays where they end
pub record Follows (n : ℕ) (ls : List Link) (f : ℕ → ℕ) : Type 0 where
  pub step : (x : ℕ) → Upto n x → f x ≡ f (parent ls x)
  pub stop : (x : ℕ) → Upto n x → parent ls x ≡ x → f x ≡ x

pub climb_stays : (ls : List Link) (s x : ℕ) → parent ls x ≡ x → climb ls s x ≡ x
climb_stays ls zero x e = refl
climb_stays ls (suc s) x e = ap (climb ls s) e ∙ climb_stays ls s x e

module _ (n : ℕ) (ls : List Link) (rise : Rising n ls) (low : Bounded n ls) where
  -- a picture of the highest rank is a root
  pub top : (x : ℕ) → Upto n x → n ≤ rank ls x → parent ls x ≡ x
  top x w h =
      ⊎_elim (λ e. e) (λ ne. let r = rise x w in let b = low (parent ls x) r.0 in let c = r.1 ne in absurd (omega arith)) (cases_eq (parent ls x) x)

  -- the number of links does not matter once it is enough
  climb_enough : (s t x : ℕ) → Upto n x → n ≤ s + rank ls x → n ≤ t + rank ls x → climb ls s x ≡ climb ls t x
  climb_enough zero t x w a b = sym (climb_stays ls t x (top x w (omega arith)))
  climb_enough (suc s) zero x w a b = climb_stays ls (suc s) x (top x w (omega arith))
  climb_enough (suc s) (suc t) x w a b =
      ⊎_elim
      (λ e. climb_stays ls (suc s) x e ∙ sym (climb_stays ls (suc t) x e))
      (λ ne. let r = rise x w in let c = r.1 ne in climb_enough s t (parent ls x) r.0 (omega arith) (omega arith))
      (cases_eq (parent ls x) x)

  pub root_follows : Follows n ls (root n ls)
  root_follows =
      record {
        step = λ x w. climb_enough n (suc n) x w (omega arith) (omega arith);
        stop = λ x w e. climb_stays ls n x e;
      }

  climb_only : (f : ℕ → ℕ) → Follows n ls f → (s x : ℕ) → Upto n x → n ≤ s + rank ls x → climb ls s x ≡ f x
  climb_only f o zero x w a = sym (o.stop x w (top x w (omega arith)))
  climb_only f o (suc s) x w a =
      ⊎_elim
      (λ e. climb_stays ls (suc s) x e ∙ sym (o.stop x w e))
      (λ ne. let r = rise x w in let c = r.1 ne in climb_only f o s (parent ls x) r.0 (omega arith) ∙ sym (o.step x w))
      (cases_eq (parent ls x) x)

  -- `root` is the only such function
  pub root_only : (f : ℕ → ℕ) → Follows n ls f → (x : ℕ) → Upto n x → root n ls x ≡ f x
  root_only f o x w = climb_only f o n x w (omega arith)

  climb_ends : (s x : ℕ) → Upto n x → n ≤ s + rank ls x → Upto n (climb ls s x) × (parent ls (climb ls s x) ≡ climb ls s x)
  climb_ends zero x w a = (w, top x w (omega arith))
  climb_ends (suc s) x w a =
      ⊎_elim
      (λ e. let st = climb_stays ls (suc s) x e in (subst (Upto n) (sym st) w, ap (parent ls) st ∙ (e ∙ sym st)))
      (λ ne. let r = rise x w in let c = r.1 ne in climb_ends s (parent ls x) r.0 (omega arith))
      (cases_eq (parent ls x) x)

  -- a root is a picture, and leads to itself
  pub root_ends : (x : ℕ) → Upto n x → Upto n (root n ls x) × (parent ls (root n ls x) ≡ root n ls x)
  root_ends x w = climb_ends n x w (omega arith)

-- The roots as a list.

pub rep_roots : (n : ℕ) (ls : List Link) (p : ℕ) → Upto n p → rep (roots n ls) p ≡ root n ls p
rep_roots n ls zero w = absurd (omega arith)
rep_roots n ls (suc i) w = get_or-map-range_with_len (root n ls) 1 n i (suc i) 0 (omega arith) (omega arith)

pub length-roots : (n : ℕ) (ls : List Link) → length (roots n ls) ≡ n
length-roots n ls = length-map-range_with_len (root n ls) 1 n

-- functions that agree on 1 to n
pub map_upto : (f g : ℕ → ℕ) (n : ℕ) → ((x : ℕ) → Upto n x → f x ≡ g x) → map f (range_with_len 1 n) ≡ map g (range_with_len 1 n)
map_upto f g n e =
    let a = length-map-range_with_len f 1 n in
    let b = length-map-range_with_len g 1 n in
    ext_get_or 0 (map f (range_with_len 1 n)) (map g (range_with_len 1 n)) (omega arith)
    (λ i l.
    get_or-map-range_with_len f 1 n i (i + 1) 0 (omega arith) (omega arith)
    ∙ (e (i + 1) (omega arith, omega arith) ∙ sym (get_or-map-range_with_len g 1 n i (i + 1) 0 (omega arith) (omega arith))))

-- roots that are a function of the former ones
pub roots_by : (h : ℕ → ℕ) (n : ℕ) (ls ls' : List Link) → ((x : ℕ) → Upto n x → root n ls' x ≡ h (root n ls x)) → roots n ls' ≡ map h (roots n ls)
roots_by h n ls ls' e =
    let a = length-roots n ls in
    let b = length-roots n ls' in
    let m = length-map (roots n ls) h in
    ext_get_or 0 (roots n ls') (map h (roots n ls)) (omega arith)
    (λ i l.
    get_or-map-range_with_len (root n ls') 1 n i (i + 1) 0 (omega arith) (omega arith)
    ∙ (e (i + 1) (omega arith, omega arith)
    ∙ (ap h (sym (get_or-map-range_with_len (root n ls) 1 n i (i + 1) 0 (omega arith) (omega arith))) ∙ sym (get_or-map h (roots n ls) i 0 0 (omega arith)))))

pub roots_same : (n : ℕ) (ls ls' : List Link) → ((x : ℕ) → Upto n x → root n ls' x ≡ root n ls x) → roots n ls' ≡ roots n ls
roots_same n ls ls' e = roots_by (λ x. x) n ls ls' e ∙ map-id (roots n ls)

pub settled_roots : (n : ℕ) (ls : List Link) → Rising n ls → Bounded n ls → Settled (roots n ls)
settled_roots n ls rise low p w =
    let l = length-roots n ls in
    let u : Upto n p = (w.0, omega arith) in
    let e = root_ends n ls rise low p u in
    let r = rep_roots n ls p u in
    let v = e.0 in (
      (omega (arith, r, v.0), omega (arith, r, v.1, l)),
      ap (rep (roots n ls)) r ∙ (rep_roots n ls (root n ls p) v ∙ ((root_follows n ls rise low).stop (root n ls p) v e.1 ∙ sym r)),
    )
