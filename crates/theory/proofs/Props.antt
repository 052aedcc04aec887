-- A chain is one in at most one way, and so is what can stand on a sheet: a ghost field keeps them truncated, and a proof takes them out again. Assumes nothing.
use Rattle.std.proofs.Common.{◌≡◌, ℕ, zero, suc, ◌<◌, ◌≤◌, List, [], ◌∷◌, get_or, All, refl}
use mathlib.Core.Logic.{∥∥₁_elim}
use native.Mathlib.Bridge.{le_prop}
use base.Stored.{coded_ℕ, coded_bool}
use denote.Struct.Props.{≡_prop}
use Rattle.std.specs.List.{AllZip}
use Rattle.theory.specs.Sheet.{Picture, Entry, same, differ, On, Placed, Proper, inputs}
use Rattle.theory.specs.Reasons.{Reason, by_entry, by_twins, JoinedBy, Number, Fits, Derivation}

pub all_prop : {X : Type 0} (Q : X → Type 0) → ((x : X) → IsProp (Q x)) → (xs : List X) → IsProp (All Q xs)
all_prop Q h xs a b = λ i k d lt. h (get_or xs k d) (a k d lt) (b k d lt) i

pub each_prop : {X : Type 0} (R : X → X → Type 0) → ((x y : X) → IsProp (R x y)) → (xs ys : List X) → IsProp (AllZip R xs ys)
each_prop R h [] [] a b = refl
each_prop R h [] (y ∷ ys) a b = absurd a
each_prop R h (x ∷ xs) [] a b = absurd a
each_prop R h (x ∷ xs) (y ∷ ys) a b = λ i. (h x y a.0 b.0 i, each_prop R h xs ys a.1 b.1 i)

on_prop : (P : List Picture) (x : ℕ) → IsProp (On P x)
on_prop P x a b = λ i. (le_prop a.0 b.0 i, le_prop a.1 b.1 i)

pub linked_prop : (P : List Picture) (S : List Reason) (a b : ℕ) → IsProp (JoinedBy P S a b)
linked_prop P S a b x y = λ i. (on_prop P a x.0 y.0 i, on_prop P b x.1 y.1 i, λ R g h. ≡_prop coded_bool _ _ (x.2 R g h) (y.2 R g h) i)

number_prop : (k : ℕ) (E : List Entry) (l r : ℕ) → IsProp (Number k E l r)
number_prop k [] l r a b = absurd a
number_prop zero (e ∷ E) l r a b = absurd a
number_prop (suc zero) (same x y ∷ E) l r a b = λ i. (≡_prop coded_ℕ _ _ a.0 b.0 i, ≡_prop coded_ℕ _ _ a.1 b.1 i)
number_prop (suc zero) (differ x y ∷ E) l r a b = absurd a
number_prop (suc (suc k)) (e ∷ E) l r a b = number_prop (suc k) E l r a b

fits_prop : (P : List Picture) (E : List Entry) (S : List Reason) (s : Reason) → IsProp (Fits P E S s)
fits_prop P E S (by_entry l r k) a b = number_prop k E l r a b
fits_prop P E S (by_twins l r) a b =
    λ i. (
      on_prop P l a.0 b.0 i,
      on_prop P r a.1 b.1 i,
      (≡_prop coded_ℕ _ _ a.2.0 b.2.0 i, each_prop (JoinedBy P S) (linked_prop P S) (inputs P l) (inputs P r) a.2.1 b.2.1 i),
    )

no_prop : {X : Type 0} → IsProp (¬ X)
no_prop f g = λ i x. absurd {A = f x ≡ g x} (f x) i

pub chain_prop : (P : List Picture) (E : List Entry) (S T : List Reason) → IsProp (Derivation P E S T)
chain_prop P E S [] a b = refl
chain_prop P E S (s ∷ T) a b = λ i. (fits_prop P E S s a.0 b.0 i, no_prop a.1 b.1 i, chain_prop P E (s ∷ S) T a.2 b.2 i)

placed_prop : (P : List Picture) (e : Entry) → IsProp (Placed P e)
placed_prop P (same a b) x y = λ i. (on_prop P a x.0 y.0 i, on_prop P b x.1 y.1 i)
placed_prop P (differ a b) x y = λ i. (on_prop P a x.0 y.0 i, on_prop P b x.1 y.1 i)

pub proper_prop : (P : List Picture) (E : List Entry) → IsProp (Proper P E)
proper_prop P E a b =
    λ i. (
      (λ p o. (
        le_prop (a.0 p o).0 (b.0 p o).0 i,
        all_prop (λ z. (1 ≤ z) × (z < p)) (λ x u v j. (le_prop u.0 v.0 j, le_prop u.1 v.1 j)) (inputs P p) (a.0 p o).1 (b.0 p o).1 i,
      )),
      all_prop (Placed P) (placed_prop P) E a.1 b.1 i,
    )

-- out of a ghost field
pub chain_kept : (P : List Picture) (E : List Entry) (T : List Reason) → ∥ Derivation P E [] T ∥₁ → Derivation P E [] T
chain_kept P E T h = ∥∥₁_elim h (chain_prop P E [] T) (λ c. c)

pub proper_kept : (P : List Picture) (E : List Entry) → ∥ Proper P E ∥₁ → Proper P E
proper_kept P E h = ∥∥₁_elim h (proper_prop P E) (λ c. c)
