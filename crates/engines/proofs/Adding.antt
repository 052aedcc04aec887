-- A sheet at rest is given one picture more. Assumes nothing.
use Rattle.std.proofs.Common.{◌≡◌, ℕ, ◌+◌, ◌<◌, ◌≤◌, true, false, ◌⊎◌, List, [], ◌∷◌, ◌++◌, length, All, Option, sym, refl, ap, subst, inl, inr, arith}
use Rattle.std.proofs.lemmas.List.Elements.{All-nil, All-cons, All-head, All-tail, All-weaker}
use Rattle.theory.specs.Sheet.{Picture, Entry, same, differ, On, Placed, Keeps, Breaks, Lowest}
use Rattle.theory.specs.Reasons.{Derivation}
use Rattle.theory.specs.Calls.{Content, Answers, add, added, refused, no_picture, full}
use Rattle.theory.proofs.Growing.{placed_more, longer, add_law}
use Rattle.theory.proofs.Journals.{picture_more_law}
use Rattle.keepers.specs.Meaning.{rep, Upto}
use Rattle.congruence.specs.declared.journal.Join.{Join}
use Rattle.congruence.specs.declared.picture.Picture.{Picture as Held}
use Rattle.congruence.specs.Drawn.{sheet, reasons}
use Rattle.congruence.specs.Working.{Together, Books, Grows, Any, Closes}
use Rattle.congruence.specs.Waiting.{Working, Idle}
use Rattle.congruence.proofs.Growing.{drawn_coarser}
use Rattle.congruence.proofs.Resting.{rests, exact, closes_keeps, keeps_coarser}
use Rattle.engines.specs.Checks.{any_absent}
use Rattle.engines.specs.Whole.{Rests}
use Rattle.engines.proofs.Numbers.{all_present, not_all_present}
use Rattle.engines.proofs.Telling.{rests_proper}

module _ (cap : ℕ) (rs rs'' : List ℕ) (ps ps'' : List Held) (x : Picture) (E : List Entry) (m m'' : ℕ → List ℕ → Option ℕ) (J J'' : List Join)
    (w : Rests cap rs ps E m J) (es : sheet ps'' ≡ sheet ps ++ x ∷ []) (fed : All (On (sheet ps)) x.inputs) (room : length (sheet ps) < cap)
    (w'' : Working rs'' ps'' m'' J'') (idle : Idle ps'') (grows : Grows (sheet ps'') Any J J'') where
  abbrev P : List Picture
  P = sheet ps

  -- what holds of the pictures that the definitions have holds of those that are held
  held-so : (R : List Picture → Type 0) → R (sheet ps ++ x ∷ []) → R (sheet ps'')
  held-so R h = subst R (sym es) h

  -- and the other way round
  drawn-so : (R : List Picture → Type 0) → R (sheet ps'') → R (sheet ps ++ x ∷ [])
  drawn-so R h = subst R es h

  grows' : Grows (sheet ps ++ x ∷ []) Any J J''
  grows' = drawn-so (λ Q. Grows Q Any J J'') grows

  derived : Derivation (sheet ps'') E [] (reasons J'')
  derived = held-so (λ Q. Derivation Q E [] (reasons J'')) (grows'.derives E tt (picture_more_law P x E (rests_proper cap rs ps E m J w) (reasons J) w.derived))

  keeps : All (Keeps (Together (rep rs''))) E
  keeps =
      keeps_coarser P (rep rs) (rep rs'') (drawn_coarser rs rs'' P x J J'' w.working.books (drawn-so (λ Q. Books rs'' Q J'') w''.books) grows') E w.placed
      (closes_keeps P E (rep rs) w.closes w.placed)

  pub added_closes : Closes (sheet ps'') E (rep rs'')
  added_closes = rests rs'' ps'' E m'' J'' w'' idle derived keeps

  unbroken : All (λ e. ¬ Breaks (sheet ps ++ x ∷ []) E e) E
  unbroken = go E w.placed w.unbroken
    where
      go : (F : List Entry) → All (Placed P) F → All (λ e. ¬ Breaks P E e) F → All (λ e. ¬ Breaks (P ++ x ∷ []) E e) F
      go [] p u = All-nil (λ e. ¬ Breaks (P ++ x ∷ []) E e)
      go (same a b ∷ F) p u =
          All-cons (λ e. ¬ Breaks (P ++ x ∷ []) E e) (same a b) F (λ k. k)
          (go F (All-tail (Placed P) (same a b) F p) (All-tail (λ e. ¬ Breaks P E e) (same a b) F u))
      go (differ a b ∷ F) p u =
          let on = All-head (Placed P) (differ a b) F p in
          All-cons (λ e. ¬ Breaks (P ++ x ∷ []) E e) (differ a b) F
          (λ k. All-head (λ e. ¬ Breaks P E e) (differ a b) F u ((add_law P x E (rests_proper cap rs ps E m J w) fed a b on.0 on.1).1 k))
          (go F (All-tail (Placed P) (differ a b) F p) (All-tail (λ e. ¬ Breaks P E e) (differ a b) F u))

  pub added_rests : Rests cap rs'' ps'' E m'' J''
  added_rests =
      record {
        closes = added_closes;
        exact = exact rs'' ps'' m'' J'' w'' idle;
        unbroken = held-so (λ Q. All (λ e. ¬ Breaks Q E e) E) unbroken;
        placed = held-so (λ Q. All (Placed Q) E) (All-weaker (Placed P) (Placed (P ++ x ∷ [])) (placed_more P x) E w.placed);
        room = held-so (λ Q. length Q ≤ cap) (omega (arith, room, longer P x));
        derived = derived;
        working = w'';
        idle = idle;
      }

-- THE ANSWERS
module _ (cap : ℕ) (s : Content) (o n : ℕ) (is : List ℕ) (en : n ≡ length s.pictures) (short : length is ≤ 4) where
  not_many : ¬ (4 < length is)
  not_many l = omega (arith, l, short)

  pub add_missing : any_absent n is ≡ true → Answers cap s (add o is) (refused no_picture)
  add_missing h = inr (not_many, inl ((λ a. not_all_present n is h (All-weaker (On s.pictures) (Upto n) (λ p q. (q.0, omega (arith, q.1, en))) is a)), refl))

  pub on_all : any_absent n is ≡ false → All (On s.pictures) is
  on_all h = All-weaker (Upto n) (On s.pictures) (λ p q. (q.0, omega (arith, q.1, en))) is (all_present n is h)

  pub add_full : any_absent n is ≡ false → (1024 ≤ length s.pictures) ⊎ (cap ≤ length s.pictures) → Answers cap s (add o is) (refused full)
  add_full h f = inr (not_many, inr ((λ q. q (on_all h)), inl (f, refl)))

  pub add_added : any_absent n is ≡ false → length s.pictures < 1024 → length s.pictures < cap → (k m : ℕ) → k ≡ length s.pictures + 1 →
      Lowest (s.pictures ++ (record { operation = o; inputs = is } ∷ [])) s.entries k m → Answers cap s (add o is) (added k m)
  add_added h few room k m ek l =
      inr (not_many, inr ((λ q. q (on_all h)), inr (no_room, (m, subst (λ (p : ℕ). Lowest (s.pictures ++ (record { operation = o; inputs = is } ∷ [])) s.entries p m) ek l, ap (λ (p : ℕ). added p m) ek))))
    where
      no_room : (1024 ≤ length s.pictures) ⊎ (cap ≤ length s.pictures) → ⊥
      no_room (inl q) = omega (arith, q, few)
      no_room (inr q) = omega (arith, q, room)
