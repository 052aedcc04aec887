-- What keeps a journal of joins a chain: one more join, one more entry, one more picture. Assumes nothing.
use Rattle.std.specs.Prelude.{◌≡◌, ℕ, List, [], ◌∷◌, ◌++◌, length, All}
use Rattle.theory.specs.Sheet.{Picture, Entry, On, Proper}
use Rattle.theory.specs.Reasons.{Reason, left, right, JoinedBy, Fits, Derivation}
use Rattle.theory.specs.Parts.{Joins}

-- one right join more of what is not joined yet
abbrev pub JoinMoreLaw : Type 0
JoinMoreLaw =
    (P : List Picture) (E : List Entry) (J : List Reason) (s : Reason) →
    Derivation P E [] J → Fits P E J s → ¬ JoinedBy P J (left s) (right s) → Derivation P E [] (J ++ s ∷ [])

-- one entry more
abbrev pub EntryMoreLaw : Type 0
EntryMoreLaw = (P : List Picture) (E : List Entry) (e : Entry) (J : List Reason) → Derivation P E [] J → Derivation P (E ++ e ∷ []) [] J

-- one picture more
abbrev pub PictureMoreLaw : Type 0
PictureMoreLaw =
    (P : List Picture) (p : Picture) (E : List Entry) → Proper P E → (J : List Reason) → Derivation P E [] J → Derivation (P ++ p ∷ []) E [] J

-- labels that tell what the journal links
pub record Tracks (P : List Picture) (J : List Reason) (f : ℕ → ℕ) : Type 0 where
  pub told : (x y : ℕ) → On P x → On P y → f x ≡ f y → JoinedBy P J x y
  pub held : All (λ s. On P (left s) × On P (right s) × (f (left s) ≡ f (right s))) J

-- they tell it exactly
abbrev pub TracksLaw : Type 0
TracksLaw = (P : List Picture) (J : List Reason) (f : ℕ → ℕ) → Tracks P J f → (x y : ℕ) → JoinedBy P J x y → f x ≡ f y

-- and go on to, where a join of the labels goes with a step of the journal
abbrev pub TracksMoreLaw : Type 0
TracksMoreLaw =
    (P : List Picture) (J : List Reason) (s : Reason) (f g : ℕ → ℕ) → Tracks P J f → On P (left s) → On P (right s) →
    Joins f g (length P) (left s) (right s) → Tracks P (J ++ s ∷ []) g
