-- A sheet at rest is told an entry: taken, or refused and withdrawn. Assumes nothing.
use Rattle.std.proofs.Common.{◌≡◌, ℕ, suc, ◌+◌, ◌-◌, ◌≤◌, List, [], ◌∷◌, ◌++◌, length, take, All, Option, sym, refl, ap, ◌∙◌, subst, add-one, arith, vec_items}
use Rattle.std.proofs.lemmas.List.Elements.{All-nil, All-cons, All-head, All-tail, All-push}
use Rattle.std.proofs.lemmas.List.{take_at, length-append, append-nil}
use Rattle.theory.specs.Sheet.{Picture, Entry, same, differ, On, Placed, Proper, Keeps, Breaks, Classes}
use Rattle.theory.specs.Reasons.{Number, JoinedBy, Fits, Derivation, by_entry}
use Rattle.theory.specs.Calls.{Taken, joined}
use Rattle.theory.proofs.Journals.{entry_more_law}
use Rattle.theory.proofs.Small.{differ_law}
use Rattle.keepers.specs.Meaning.{rep}
use Rattle.keepers.specs.declared.keeper.Keeper.{Ghosts as Kept}
use Rattle.indexes.specs.Meaning.{held}
use Rattle.indexes.specs.declared.index.Index.{Ghosts as Found}
use Rattle.congruence.specs.declared.journal.Join.{Join}
use Rattle.congruence.specs.declared.picture.Picture.{Picture as Held}
use Rattle.congruence.specs.declared.congruence.Congruence.{Congruence}
use Rattle.congruence.specs.Drawn.{sheet, reason_of, reasons}
use Rattle.congruence.specs.Whole.{Works}
use Rattle.congruence.specs.Working.{Together, Books, Grows, Any, Closes}
use Rattle.congruence.specs.Waiting.{Working, Idle}
use Rattle.congruence.proofs.Journals.{grows_coarser}
use Rattle.congruence.proofs.Resting.{rests, exact, closes_keeps, keeps_coarser, nothing_more, closes_again, classes_told}
use Rattle.engines.specs.Whole.{Rests}

number_last : (E : List Entry) (a b : ℕ) → Number (suc (length E)) (E ++ same a b ∷ []) a b
number_last [] a b = (refl, refl)
number_last (e ∷ E) a b = number_last E a b

-- the same entry has the number after those taken
pub number_new : (E : List Entry) (k a b : ℕ) → k ≡ length E + 1 → Number k (E ++ same a b ∷ []) a b
number_new E k a b e = subst (λ (n : ℕ). Number n (E ++ same a b ∷ []) a b) (sym (e ∙ add-one (length E))) (number_last E a b)

pub rests_proper : (cap : ℕ) (rs : List ℕ) (ps : List Held) (E : List Entry) (m : ℕ → List ℕ → Option ℕ) (J : List Join) → Rests cap rs ps E m J → Proper (sheet ps) E
rests_proper cap rs ps E m J w = (w.working.ready.ordered, w.placed)

-- A SHEET JUST PUT TOGETHER: with no picture, no join and no entry it rests
pub rests_none : (cap : ℕ) (rs : List ℕ) (m : ℕ → List ℕ → Option ℕ) → Working rs [] m [] → Rests cap rs [] [] m []
rests_none cap rs m w =
    record {
      closes = λ x y ox oy. absurd (omega (arith, ox.0, ox.1));
      exact = exact rs [] m [] w (λ p o. absurd (omega (arith, o.0, o.1)));
      unbroken = All-nil (λ e. ¬ Breaks [] [] e);
      placed = All-nil (Placed []);
      room = omega arith;
      derived = tt;
      working = w;
      idle = λ p o. absurd (omega (arith, o.0, o.1));
    }

-- A SAME ENTRY: what holds once its pictures and all twins are joined
pub record Tied (cap : ℕ) (rs rs' : List ℕ) (ps ps' : List Held) (E : List Entry) (m m' : ℕ → List ℕ → Option ℕ) (J J' : List Join) (j : Join) (a b : ℕ) : Type 0 where
  pub rested : Rests cap rs ps E m J
  pub left_on : On (sheet ps) a
  pub right_on : On (sheet ps) b
  pub fits : Fits (sheet ps) (E ++ same a b ∷ []) (reasons J) (reason_of j)
  pub sheets : sheet ps' ≡ sheet ps
  pub working : Working rs' ps' m' J'
  pub idle : Idle ps'
  pub grows : Grows (sheet ps) (λ F. Fits (sheet ps) F (reasons J) (reason_of j)) J J'
  pub meet : rep rs' a ≡ rep rs' b

-- so it is where a congruence that rested has tied the entry in
pub tied_in : {X Y : Type 0} (kept : Kept X) (found : Found Y) (cap : ℕ) (c c' : Congruence X Y) (E : List Entry) (a b k : ℕ) (j : Join) → reason_of j ≡ by_entry a b k → k ≡ length E + 1 →
    Rests cap (kept.reps c.keeper) (vec_items c.pictures) E (held (found.leads c.index)) (vec_items c.journal) → On (sheet (vec_items c.pictures)) a → On (sheet (vec_items c.pictures)) b →
    sheet (vec_items c'.pictures) ≡ sheet (vec_items c.pictures) → Works kept found c' → Idle (vec_items c'.pictures) →
    Grows (sheet (vec_items c.pictures)) (λ F. Fits (sheet (vec_items c.pictures)) F (reasons (vec_items c.journal)) (reason_of j)) (vec_items c.journal) (vec_items c'.journal) → rep (kept.reps c'.keeper) a ≡ rep (kept.reps c'.keeper) b →
    Tied cap (kept.reps c.keeper) (kept.reps c'.keeper) (vec_items c.pictures) (vec_items c'.pictures) E (held (found.leads c.index)) (held (found.leads c'.index)) (vec_items c.journal) (vec_items c'.journal) j a b
tied_in kept found cap c c' E a b k j is ek w oa ob es w' idle grows meet =
    record {
      rested = w;
      left_on = oa;
      right_on = ob;
      fits = subst (λ s. Fits (sheet (vec_items c.pictures)) (E ++ same a b ∷ []) (reasons (vec_items c.journal)) s) (sym is) (number_new E k a b ek);
      sheets = es;
      working = w';
      idle = idle;
      grows = grows;
      meet = meet;
    }

module _ {cap : ℕ} {rs rs' : List ℕ} {ps ps' : List Held} {E : List Entry} {m m' : ℕ → List ℕ → Option ℕ} {J J' : List Join} {j : Join} {a b : ℕ} (h : Tied cap rs rs' ps ps' E m m' J J' j a b) where
  abbrev P : List Picture
  P = sheet ps

  abbrev E' : List Entry
  E' = E ++ same a b ∷ []

  -- what holds of the pictures as they were holds of them as they are
  again : (R : List Picture → Type 0) → R (sheet ps) → R (sheet ps')
  again R x = subst R (sym h.sheets) x

  -- and the other way round
  before : (R : List Picture → Type 0) → R (sheet ps') → R (sheet ps)
  before R x = subst R h.sheets x

  books' : Books rs' (sheet ps) J'
  books' = before (λ Q. Books rs' Q J') h.working.books

  -- the journal tells the classes of the pictures as they were, and has at most as many joins
  pub told_journal : Books rs' (sheet ps) J'
  told_journal = books'

  pub told_few : length J' ≤ length (sheet ps)
  told_few = books'.few

  -- two pictures of the sheet with one representative are joined by the journal
  pub told_books : (x y : ℕ) → On (sheet ps) x → On (sheet ps) y → rep rs' x ≡ rep rs' y → JoinedBy (sheet ps) (reasons J') x y
  told_books x y ox oy e = books'.tracks.told x y ox oy e

  pub same_placed : All (Placed (sheet ps)) (E ++ same a b ∷ [])
  same_placed = All-push (Placed P) E (same a b) h.rested.placed (h.left_on, h.right_on)

  pub same_proper : Proper (sheet ps) (E ++ same a b ∷ [])
  same_proper = (h.rested.working.ready.ordered, same_placed)

  pub same_derived : Derivation (sheet ps) (E ++ same a b ∷ []) [] (reasons J')
  same_derived = h.grows.derives E' h.fits (entry_more_law P E (same a b) (reasons J) h.rested.derived)

  pub same_closes : Closes (sheet ps) (E ++ same a b ∷ []) (rep rs')
  same_closes =
      before (λ Q. Closes Q E' (rep rs'))
      (rests rs' ps' E' m' J' h.working h.idle (again (λ Q. Derivation Q E' [] (reasons J')) same_derived)
      (All-push (Keeps (Together (rep rs'))) E (same a b)
      (keeps_coarser P (rep rs) (rep rs') (grows_coarser rs rs' P (λ F. Fits P F (reasons J) (reason_of j)) J J' h.rested.working.books books' h.grows) E h.rested.placed (closes_keeps P E (rep rs) h.rested.closes h.rested.placed)) h.meet))

  pub same_rests : All (λ e. ¬ Breaks (sheet ps) (E ++ same a b ∷ []) e) (E ++ same a b ∷ []) → Rests cap rs' ps' (E ++ same a b ∷ []) m' J'
  same_rests u =
      record {
        closes = again (λ Q. Closes Q E' (rep rs')) same_closes;
        exact = exact rs' ps' m' J' h.working h.idle;
        unbroken = again (λ Q. All (λ e. ¬ Breaks Q E' e) E') u;
        placed = again (λ Q. All (Placed Q) E') same_placed;
        room = again (λ Q. length Q ≤ cap) h.rested.room;
        derived = again (λ Q. Derivation Q E' [] (reasons J')) same_derived;
        working = h.working;
        idle = h.idle;
      }

  pub longer : length J ≤ length J'
  longer = omega (arith, ap length h.grows.is, length-append J h.grows.more)

  -- the joins are the classes before less the classes after
  pub same_taken : (k i : ℕ) → k ≡ length E + 1 → i ≡ length J' - length J → Taken (sheet ps) E (same a b) (joined k i)
  same_taken k i ek ei = (
    length J' - length J,
    length P - length J',
    subst (Classes P E) (omega (arith, longer, books'.few)) (classes_told rs P E J h.rested.working.books h.rested.closes),
    classes_told rs' P E' J' books' same_closes,
    ap (λ (n : ℕ). joined n i) ek ∙ ap (joined (length E + 1)) ei,
  )

  -- the first joins of the journal are those from before
  pub same_begins : (to : ℕ) → to ≡ length J → take to J' ≡ J
  same_begins to e = ap (take to) h.grows.is ∙ take_at J h.grows.more to (sym e)

-- BACK TO THE ENTRIES TAKEN
module _ (cap : ℕ) (rs rs'' : List ℕ) (ps ps'' : List Held) (E : List Entry) (m m'' : ℕ → List ℕ → Option ℕ) (J J'' : List Join)
    (w : Rests cap rs ps E m J) (es : sheet ps'' ≡ sheet ps) (w'' : Working rs'' ps'' m'' J'') (idle : Idle ps'') (g : Grows (sheet ps) Any J J'') where
  books'' : Books rs'' (sheet ps) J''
  books'' = subst (λ (Q : List Picture). Books rs'' Q J'') es w''.books

  same-journal : J'' ≡ J
  same-journal =
      g.is ∙ (ap (λ (M : List Join). J ++ M)
      (nothing_more rs rs'' (sheet ps) E J g.more w.working.books w.closes (subst (Books rs'' (sheet ps)) g.is books'')
      (subst (λ (K : List Join). Derivation (sheet ps) E [] (reasons K)) g.is (g.derives E tt w.derived))) ∙ append-nil J)

  anew : (R : List Picture → Type 0) → R (sheet ps) → R (sheet ps'')
  anew R x = subst R (sym es) x

  pub rests_again : Rests cap rs'' ps'' E m'' J''
  rests_again =
      record {
        closes = anew (λ Q. Closes Q E (rep rs'')) (closes_again rs rs'' (sheet ps) E J w.working.books (subst (Books rs'' (sheet ps)) same-journal books'') w.closes);
        exact = exact rs'' ps'' m'' J'' w'' idle;
        unbroken = anew (λ Q. All (λ e. ¬ Breaks Q E e) E) w.unbroken;
        placed = anew (λ Q. All (Placed Q) E) w.placed;
        room = anew (λ Q. length Q ≤ cap) w.room;
        derived = anew (λ Q. Derivation Q E [] (reasons J'')) (g.derives E tt w.derived);
        working = w'';
        idle = idle;
      }

-- A DIFFER ENTRY changes no class
module _ (cap : ℕ) (rs : List ℕ) (ps : List Held) (E : List Entry) (m : ℕ → List ℕ → Option ℕ) (J : List Join) (a b : ℕ)
    (w : Rests cap rs ps E m J) (oa : On (sheet ps) a) (ob : On (sheet ps) b) where
  pub differ_placed : All (Placed (sheet ps)) (E ++ differ a b ∷ [])
  differ_placed = All-push (Placed (sheet ps)) E (differ a b) w.placed (oa, ob)

  pub differ_proper : Proper (sheet ps) (E ++ differ a b ∷ [])
  differ_proper = (w.working.ready.ordered, differ_placed)

  pub differ_closes : Closes (sheet ps) (E ++ differ a b ∷ []) (rep rs)
  differ_closes x y ox oy = (
    (λ e. (differ_law (sheet ps) E a b x y).0 ((w.closes x y ox oy).0 e)),
    λ c. (w.closes x y ox oy).1 ((differ_law (sheet ps) E a b x y).1 c),
  )

  pub differ_derived : Derivation (sheet ps) (E ++ differ a b ∷ []) [] (reasons J)
  differ_derived = entry_more_law (sheet ps) E (differ a b) (reasons J) w.derived

  -- the earlier entries are as little broken as before
  pub differ_unbroken : All (λ e. ¬ Breaks (sheet ps) (E ++ differ a b ∷ []) e) E
  differ_unbroken = go E w.unbroken
    where
      go : (F : List Entry) → All (λ e. ¬ Breaks (sheet ps) E e) F → All (λ e. ¬ Breaks (sheet ps) (E ++ differ a b ∷ []) e) F
      go [] u = All-nil (λ e. ¬ Breaks (sheet ps) (E ++ differ a b ∷ []) e)
      go (same x y ∷ F) u = All-cons (λ e. ¬ Breaks (sheet ps) (E ++ differ a b ∷ []) e) (same x y) F (λ k. k) (go F (All-tail (λ e. ¬ Breaks (sheet ps) E e) (same x y) F u))
      go (differ x y ∷ F) u =
          All-cons (λ e. ¬ Breaks (sheet ps) (E ++ differ a b ∷ []) e) (differ x y) F
          (λ k. All-head (λ e. ¬ Breaks (sheet ps) E e) (differ x y) F u ((differ_law (sheet ps) E a b x y).1 k))
          (go F (All-tail (λ e. ¬ Breaks (sheet ps) E e) (differ x y) F u))

  pub differ_rests : ¬ (rep rs a ≡ rep rs b) → Rests cap rs ps (E ++ differ a b ∷ []) m J
  differ_rests ne =
      record {
        closes = differ_closes;
        exact = w.exact;
        unbroken = All-push (λ e. ¬ Breaks (sheet ps) (E ++ differ a b ∷ []) e) E (differ a b) differ_unbroken (λ k. ne ((differ_closes a b oa ob).1 k));
        placed = differ_placed;
        room = w.room;
        derived = differ_derived;
        working = w.working;
        idle = w.idle;
      }
