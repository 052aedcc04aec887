-- A union, by the representative that is lost and its heir. Assumes nothing.
use Rattle.std.proofs.Common.{◌≡◌, ℕ, false, ◌||◌, ◌≢◌, ◌⊎◌, List, [], ◌∷◌, map, length, All, sym, refl, ap, ◌∙◌, subst, ap₂, inl, inr, ⊎_elim}
use Rattle.std.proofs.lemmas.List.Elements.{All-head, All-tail}
use Rattle.std.proofs.lemmas.Bool.{cases_eq, ne_eqb}
use Rattle.theory.specs.Parts.{Joins}
use Rattle.keepers.specs.Meaning.{rep, Upto, Within, moved, Unites}
use Rattle.keepers.specs.Reps.{rep_map, moved_hit, moved_miss, united}
use Rattle.congruence.specs.Waiting.{uses}

-- g is f with the heir in place of the lost representative
pub record Moves (lost heir n : ℕ) (f g : ℕ → ℕ) : Type 0 where
  pub other : heir ≢ lost
  pub all : (x : ℕ) → Upto n x → g x ≡ moved lost heir (f x)

module _ (lost heir n : ℕ) (f g : ℕ → ℕ) (m : Moves lost heir n f g) where
  hit : (x : ℕ) → Upto n x → f x ≡ lost → g x ≡ heir
  hit x w e = m.all x w ∙ moved_hit lost heir (f x) e

  miss : (x : ℕ) → Upto n x → f x ≢ lost → g x ≡ f x
  miss x w ne = m.all x w ∙ moved_miss lost heir (f x) ne

  pub moves_keeps : (x y : ℕ) → Upto n x → Upto n y → f x ≡ f y → g x ≡ g y
  moves_keeps x y wx wy e = m.all x wx ∙ (ap (moved lost heir) e ∙ sym (m.all y wy))

  moves_only : (x y : ℕ) → Upto n x → Upto n y → g x ≡ g y → (f x ≡ f y) ⊎ (((f x ≡ lost) × (f y ≡ heir)) ⊎ ((f x ≡ heir) × (f y ≡ lost)))
  moves_only x y wx wy e =
      ⊎_elim
      (λ h. ⊎_elim
      (λ k. inl (h ∙ sym k))
      (λ k. inr (inl (h, sym (miss y wy k) ∙ (sym e ∙ hit x wx h))))
      (cases_eq (f y) lost))
      (λ h. ⊎_elim
      (λ k. inr (inr (sym (miss x wx h) ∙ (e ∙ hit y wy k), k)))
      (λ k. inl (sym (miss x wx h) ∙ (e ∙ miss y wy k)))
      (cases_eq (f y) lost))
      (cases_eq (f x) lost)

  -- the classes of the lost representative and its heir are one
  pub moves_joins : (a b : ℕ) → g a ≡ g b → ((f a ≡ lost) × (f b ≡ heir)) ⊎ ((f a ≡ heir) × (f b ≡ lost)) → Joins f g n a b
  moves_joins a b meet which = record { keeps = λ x y lx ux ly uy e. moves_keeps x y (lx, ux) (ly, uy) e; meets = meet; only = λ x y lx ux ly uy e. go which (moves_only x y (lx, ux) (ly, uy) e) }
    where
      go : {x y : ℕ} → ((f a ≡ lost) × (f b ≡ heir)) ⊎ ((f a ≡ heir) × (f b ≡ lost)) → (f x ≡ f y) ⊎ (((f x ≡ lost) × (f y ≡ heir)) ⊎ ((f x ≡ heir) × (f y ≡ lost))) →
          (f x ≡ f y) ⊎ (((f x ≡ f a) × (f y ≡ f b)) ⊎ ((f x ≡ f b) × (f y ≡ f a)))
      go w (inl e) = inl e
      go (inl w) (inr (inl e)) = inr (inl (e.0 ∙ sym w.0, e.1 ∙ sym w.1))
      go (inl w) (inr (inr e)) = inr (inr (e.0 ∙ sym w.1, e.1 ∙ sym w.0))
      go (inr w) (inr (inl e)) = inr (inr (e.0 ∙ sym w.1, e.1 ∙ sym w.0))
      go (inr w) (inr (inr e)) = inr (inl (e.0 ∙ sym w.0, e.1 ∙ sym w.1))

  -- rows of representatives, renamed
  pub rows_moved : (xs : List ℕ) → All (Upto n) xs → map (moved lost heir) (map f xs) ≡ map g xs
  rows_moved [] a = refl
  rows_moved (x ∷ xs) a = ap₂ ◌∷◌ (sym (m.all x (All-head (Upto n) x xs a))) (rows_moved xs (All-tail (Upto n) x xs a))

  pub free_moved : (xs : List ℕ) → All (Upto n) xs → uses lost (map g xs) ≡ false
  free_moved [] a = refl
  free_moved (x ∷ xs) a =
      ap₂ ◌||◌ (ne_eqb (g x) lost
      (λ e. ⊎_elim (λ h. m.other (sym (hit x (All-head (Upto n) x xs a) h) ∙ e)) (λ h. h (sym (miss x (All-head (Upto n) x xs a) h) ∙ e)) (cases_eq (f x) lost))) (free_moved xs (All-tail (Upto n) x xs a))

-- a union of two pictures' classes
pub unites_joins : (p q : ℕ) (rs rs' : List ℕ) → Within rs p → Within rs q → rep rs p ≢ rep rs q → Unites p q rs rs' → Joins (rep rs) (rep rs') (length rs) p q
unites_joins p q rs rs' wp wq ne u =
    ⊎_elim
    (λ e. moves_joins (rep rs q) (rep rs p) (length rs) (rep rs) (rep rs') (record { other = ne; all = at _ e }) p q meet (inr (refl, refl)))
    (λ e. moves_joins (rep rs p) (rep rs q) (length rs) (rep rs) (rep rs') (record { other = λ z. ne (sym z); all = at _ e }) p q meet (inl (refl, refl)))
    u
  where
    meet : rep rs' p ≡ rep rs' q
    meet = united p q rs rs' wp wq ne u

    at : (h : ℕ → ℕ) → rs' ≡ map h rs → (x : ℕ) → Upto (length rs) x → rep rs' x ≡ h (rep rs x)
    at h e x w = ap (λ (r : List ℕ). rep r x) e ∙ rep_map h rs x w

-- which of the two was lost: a and b are the representatives before, and heir is the one after
pub lost_moves : (p q a b heir lost : ℕ) (rs rs' : List ℕ) → Within rs p → Within rs q → rep rs p ≢ rep rs q → Unites p q rs rs' → a ≡ rep rs p → b ≡ rep rs q → heir ≡ rep rs' p →
    ((heir ≡ a) × (lost ≡ b)) ⊎ ((heir ≢ a) × (lost ≡ a)) → Moves lost heir (length rs) (rep rs) (rep rs')
lost_moves p q a b heir lost rs rs' wp wq ne u ea eb eh way =
    ⊎_elim
    (λ e.
    let k : rep rs' p ≡ rep rs p = at _ e p wp ∙ moved_miss (rep rs q) (rep rs p) (rep rs p) ne in
    ⊎_elim
    (λ w. to (rep rs q) (rep rs p) (record { other = ne; all = at _ e }) (w.1 ∙ eb) (eh ∙ k))
    (λ w. absurd (w.0 (eh ∙ (k ∙ sym ea))))
    way)
    (λ e.
    let k : rep rs' p ≡ rep rs q = at _ e p wp ∙ moved_hit (rep rs p) (rep rs q) (rep rs p) refl in
    ⊎_elim
    (λ w. absurd (ne (sym ea ∙ (sym w.0 ∙ (eh ∙ k)))))
    (λ w. to (rep rs p) (rep rs q) (record { other = λ z. ne (sym z); all = at _ e }) (w.1 ∙ ea) (eh ∙ k))
    way)
    u
  where
    at : (h : ℕ → ℕ) → rs' ≡ map h rs → (x : ℕ) → Upto (length rs) x → rep rs' x ≡ h (rep rs x)
    at h e x w = ap (λ (r : List ℕ). rep r x) e ∙ rep_map h rs x w

    to : (l h : ℕ) → Moves l h (length rs) (rep rs) (rep rs') → lost ≡ l → heir ≡ h → Moves lost heir (length rs) (rep rs) (rep rs')
    to l h m el eh = subst (λ (z : ℕ). Moves z heir (length rs) (rep rs) (rep rs')) (sym el) (subst (λ (z : ℕ). Moves l z (length rs) (rep rs) (rep rs')) (sym eh) m)
