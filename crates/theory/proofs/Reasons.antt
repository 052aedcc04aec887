-- What a chain joins is in one class. Assumes nothing.
use Rattle.std.proofs.Common.{ℕ, zero, suc, Bool, List, [], ◌∷◌, All, subst, subst₂}
use Rattle.std.specs.List.{AllZip}
use Rattle.std.proofs.lemmas.List.Elements.{All-cons, All-head, All-nil, All-tail}
use Rattle.theory.specs.Sheet.{Picture, Entry, same, differ, On, Placed, Is, Keeps, Congruence, inputs}
use Rattle.theory.specs.Reasons.{Reason, by_entry, by_twins, left, right, Equivalence, JoinedBy, Number, Fits, Derivation, DerivationLaw}

module _ (P : List Picture) (E : List Entry) (R : ℕ → ℕ → Bool) (g : Congruence P E R) where
  abbrev Held : Reason → Type 0
  Held s = Is R (left s) (right s)

  equivalence : Equivalence P R
  equivalence = record { reflexive = g.reflexive; symmetric = g.symmetric; transitive = g.transitive }

  numbered : (k : ℕ) (F : List Entry) (l r : ℕ) → All (Keeps (Is R)) F → Number k F l r → Is R l r
  numbered k [] l r h n = absurd n
  numbered zero (e ∷ F) l r h n = absurd n
  numbered (suc zero) (same a b ∷ F) l r h n = subst₂ (λ x y. Is R x y) n.0 n.1 (All-head (Keeps (Is R)) (same a b) F h)
  numbered (suc zero) (differ a b ∷ F) l r h n = absurd n
  numbered (suc (suc k)) (e ∷ F) l r h n = numbered (suc k) F l r (All-tail (Keeps (Is R)) e F h) n

  pairs : (S : List Reason) → All Held S → (xs ys : List ℕ) → AllZip (JoinedBy P S) xs ys → AllZip (Is R) xs ys
  pairs S h [] [] e = tt
  pairs S h [] (y ∷ ys) e = absurd e
  pairs S h (x ∷ xs) [] e = absurd e
  pairs S h (x ∷ xs) (y ∷ ys) e = (e.0.2 R equivalence h, pairs S h xs ys e.1)

  fit : (S : List Reason) → All Held S → (s : Reason) → Fits P E S s → Held s
  fit S h (by_entry l r k) f = numbered k E l r g.keeps f
  fit S h (by_twins l r) f = g.twins l r f.0 f.1 (f.2.0, pairs S h (inputs P l) (inputs P r) f.2.1)

  held : (S T : List Reason) → All Held S → Derivation P E S T → All Held T
  held S [] h c = All-nil _
  held S (s ∷ T) h c = let k = fit S h s c.0 in All-cons Held s T k (held (s ∷ S) T (All-cons Held s S k h) c.2)

pub chain_law : DerivationLaw
chain_law P E a b T x = let l = x.1 in (l.0, l.1, λ R g. l.2 R (equivalence P E R g) (held P E R g [] T (All-nil _) x.0))

pub number_on : (P : List Picture) (F : List Entry) → All (Placed P) F → (k l r : ℕ) → Number k F l r → On P l × On P r
number_on P [] w k l r n = absurd n
number_on P (e ∷ F) w zero l r n = absurd n
number_on P (same a b ∷ F) w (suc zero) l r n =
    let v = All-head (Placed P) (same a b) F w in (subst (λ x. On P x) n.0 v.0, subst (λ x. On P x) n.1 v.1)
number_on P (differ a b ∷ F) w (suc zero) l r n = absurd n
number_on P (e ∷ F) w (suc (suc k)) l r n = number_on P F (All-tail (Placed P) e F w) (suc k) l r n
