-- A supported slice of a chain is a chain. Assumes nothing.
use Rattle.std.proofs.Common.{ℕ, zero, suc, Bool, true, false, List, [], ◌∷◌, take, All}
use Rattle.std.proofs.lemmas.List.Elements.{All-cons, All-head, All-tail}
use Rattle.theory.specs.Sheet.{Picture, Entry, On, Is}
use Rattle.theory.specs.Reasons.{Reason, by_entry, by_twins, left, right, JoinedBy, Fits, Derivation}
use Rattle.theory.specs.Slices.{kept, Propped, Supported, SliceLaw}

-- what all of T have, all of S have
abbrev pub Part : List Reason → List Reason → Type 1
Part S T = (Q : Reason → Type 0) → All Q T → All Q S

module _ (P : List Picture) where
  pub l_refl : (S : List Reason) (a : ℕ) → On P a → JoinedBy P S a a
  l_refl S a o = (o, o, λ R g h. g.reflexive a o)

  pub l_sym : (S : List Reason) (a b : ℕ) → JoinedBy P S a b → JoinedBy P S b a
  l_sym S a b l = (l.1, l.0, λ R g h. g.symmetric a b l.0 l.1 (l.2 R g h))

  pub l_trans : (S : List Reason) (a b c : ℕ) → JoinedBy P S a b → JoinedBy P S b c → JoinedBy P S a c
  l_trans S a b c l m = (l.0, m.1, λ R g h. g.transitive a b c l.0 l.1 m.1 (l.2 R g h) (m.2 R g h))

  pub l_step : (S : List Reason) (s : Reason) → On P (left s) → On P (right s) → JoinedBy P (s ∷ S) (left s) (right s)
  l_step S s a b = (a, b, λ R g h. All-head (λ t. Is R (left t) (right t)) s S h)

  pub l_more : (S T : List Reason) → Part S T → (a b : ℕ) → JoinedBy P S a b → JoinedBy P T a b
  l_more S T p a b l = (l.0, l.1, λ R g h. l.2 R g (p (λ s. Is R (left s) (right s)) h))

  slice : (E : List Entry) (S V : List Reason) → Part V S → (T : List Reason) → Derivation P E S T → (bs : List Bool) → Supported P V bs T → Derivation P E V (kept bs T)
  slice E S V p T c [] u = tt
  slice E S V p [] c (b ∷ bs) u = tt
  slice E S V p (s ∷ T) c (false ∷ bs) u = slice E (s ∷ S) V (λ Q h. p Q (All-tail Q s S h)) T c.2 bs u
  slice E S V p (s ∷ T) c (true ∷ bs) u =
      (fits s c.0 u.0, (λ l. c.1 (l_more V S p _ _ l)), slice E (s ∷ S) (s ∷ V) (λ Q h. All-cons Q s V (All-head Q s S h) (p Q (All-tail Q s S h))) T c.2 bs u.1)
    where
      fits : (s : Reason) → Fits P E S s → Propped P V s → Fits P E V s
      fits (by_entry l r k) f q = f
      fits (by_twins l r) f q = (f.0, f.1, (f.2.0, q))

pub slice_law : SliceLaw
slice_law P E T c bs u = slice P E [] [] (λ Q h. h) T c bs u

-- the first steps of a chain are a chain
pub chain_take : (P : List Picture) (E : List Entry) (S T : List Reason) (n : ℕ) → Derivation P E S T → Derivation P E S (take n T)
chain_take P E S T zero c = tt
chain_take P E S [] (suc n) c = tt
chain_take P E S (s ∷ T) (suc n) c = (c.0, c.1, chain_take P E (s ∷ S) T n c.2)
