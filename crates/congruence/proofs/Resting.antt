-- Classes at rest are those of the closure. Assumes nothing.
use Rattle.std.proofs.Common.{◌≡◌, ℕ, ◌-◌, eqb, List, [], ◌∷◌, ◌++◌, length, get_or, All, Option, sym, refl, ap, ◌∙◌, subst, arith}
use lib.Seq.{get_or_at}
use Rattle.std.specs.List.{AllZip}
use Rattle.std.proofs.lemmas.List.Elements.{All-weaker, All-head, All-tail}
use Rattle.std.proofs.lemmas.List.{take_at, length-append}
use Rattle.std.proofs.lemmas.Bool.{eq-eqb, eqb-true}
use Rattle.theory.specs.Sheet.{Picture, Entry, same, differ, On, Placed, Is, Keeps, Congruence, Closure, Lowest, Classes, inputs, operation}
use Rattle.theory.specs.Reasons.{left, right, JoinedBy, Derivation}
use Rattle.theory.specs.Journal.{Tracks}
use Rattle.theory.proofs.Closed.{c_keeps}
use Rattle.theory.proofs.Journals.{tracks_law}
use Rattle.theory.proofs.Parts.{parts_law}
use Rattle.theory.proofs.Reasons.{chain_law}
use Rattle.keepers.specs.Meaning.{rep}
use Rattle.congruence.specs.declared.journal.Join.{Join}
use Rattle.congruence.specs.declared.picture.Picture.{Picture as Held}
use Rattle.congruence.specs.Drawn.{sheet, reason_of, reasons}
use Rattle.congruence.specs.Working.{Together, Ready, Books, Twinned, Closes}
use Rattle.congruence.specs.Working.{Lowest as Lowest-kept}
use Rattle.congruence.specs.Waiting.{noted, waits, Idle, Working, Exact}
use Rattle.congruence.proofs.Journals.{within, left_is, right_is}
use Rattle.congruence.proofs.Posts.{posted_twinned}
use Rattle.congruence.proofs.Replays.{derived_fresh, tracked_placed}

-- what is together is in one class of the closure, since the journal is a chain
pub sound : (rs : List ℕ) (P : List Picture) (E : List Entry) (J : List Join) → Books rs P J → Derivation P E [] (reasons J) →
    (x y : ℕ) → On P x → On P y → rep rs x ≡ rep rs y → Closure P E x y
sound rs P E J b d x y ox oy e = chain_law P E x y (reasons J) (d, b.tracks.told x y ox oy e)

keeps_tests : (f : ℕ → ℕ) (F : List Entry) → All (Keeps (Together f)) F → All (Keeps (Is (λ a b. eqb (f a) (f b)))) F
keeps_tests f F a = All-weaker (Keeps (Together f)) (Keeps (Is (λ a b. eqb (f a) (f b)))) each F a
  where
    each : (e : Entry) → Keeps (Together f) e → Keeps (Is (λ a b. eqb (f a) (f b))) e
    each (same x y) h = eq-eqb (f x) (f y) h
    each (differ x y) h = tt

each_tested : (f : ℕ → ℕ) (xs ys : List ℕ) → AllZip (Is (λ a b. eqb (f a) (f b))) xs ys → AllZip (Together f) xs ys
each_tested f [] [] e = tt
each_tested f [] (y ∷ ys) e = absurd e
each_tested f (x ∷ xs) [] e = absurd e
each_tested f (x ∷ xs) (y ∷ ys) e = (eqb-true (f x) (f y) e.0, each_tested f xs ys e.1)

-- labels that hold the entries and put twins together hold the closure
pub complete : (P : List Picture) (E : List Entry) (f : ℕ → ℕ) → Twinned P f → All (Keeps (Together f)) E → (x y : ℕ) → Closure P E x y → f x ≡ f y
complete P E f t k x y c = eqb-true (f x) (f y) (c.2 (λ a b. eqb (f a) (f b)) congruent)
  where
    congruent : Congruence P E (λ a b. eqb (f a) (f b))
    congruent =
        record {
          reflexive = λ a o. eq-eqb (f a) (f a) refl;
          symmetric = λ a b oa ob h. eq-eqb (f b) (f a) (sym (eqb-true (f a) (f b) h));
          transitive = λ a b d oa ob od h i. eq-eqb (f a) (f d) (eqb-true (f a) (f b) h ∙ eqb-true (f b) (f d) i);
          keeps = keeps_tests f E k;
          twins = λ a b oa ob w. eq-eqb (f a) (f b) (t a b oa ob (w.0, each_tested f (inputs P a) (inputs P b) w.1));
        }

-- AT REST
pub rests : (rs : List ℕ) (ps : List Held) (E : List Entry) (m : ℕ → List ℕ → Option ℕ) (J : List Join) → Working rs ps m J → Idle ps → Derivation (sheet ps) E [] (reasons J) →
    All (Keeps (Together (rep rs))) E → Closes (sheet ps) E (rep rs)
rests rs ps E m J w i d k x y ox oy = (
  sound rs (sheet ps) E J w.books d x y ox oy,
  complete (sheet ps) E (rep rs) (posted_twinned (rep rs) (sheet ps) (noted ps) m (waits ps) w.going.posted w.going.rows i) k x y,
)

-- and the index is exact
pub exact : (rs : List ℕ) (ps : List Held) (m : ℕ → List ℕ → Option ℕ) (J : List Join) → Working rs ps m J → Idle ps → Exact (rep rs) (sheet ps) m
exact rs ps m J w i =
    let g = w.going in
    record {
      finds = λ p o. let k = g.posted.finds p o (i p o) tt in (k.0, ap (m (operation (sheet ps) p)) (sym (g.rows p o)) ∙ k.1);
      bears = λ o v q h. let b = g.posted.bears o v q h in (b.0, b.2, sym (g.rows q b.0) ∙ b.3);
    }

-- THE ENTRIES
pub closes_keeps : (P : List Picture) (E : List Entry) (f : ℕ → ℕ) → Closes P E f → All (Placed P) E → All (Keeps (Together f)) E
closes_keeps P E f c p = go E p (c_keeps P E p)
  where
    go : (F : List Entry) → All (Placed P) F → All (Keeps (Closure P E)) F → All (Keeps (Together f)) F
    go F p a = λ k d l. each (get_or F k d) (p k d l) (a k d l)
      where
        each : (e : Entry) → Placed P e → Keeps (Closure P E) e → Keeps (Together f) e
        each (same x y) o h = (c x y o.0 o.1).1 h
        each (differ x y) o h = tt

pub keeps_coarser : (P : List Picture) (f g : ℕ → ℕ) → ((x y : ℕ) → On P x → On P y → f x ≡ f y → g x ≡ g y) → (F : List Entry) → All (Placed P) F → All (Keeps (Together f)) F → All (Keeps (Together g)) F
keeps_coarser P f g c F p a = λ k d l. each (get_or F k d) (p k d l) (a k d l)
  where
    each : (e : Entry) → Placed P e → Keeps (Together f) e → Keeps (Together g) e
    each (same x y) o h = c x y o.0 o.1 h
    each (differ x y) o h = tt

-- THE JOURNAL
-- each step of the journal joins what is together
together : (P : List Picture) (L : List Join) (f : ℕ → ℕ) → Tracks P (reasons L) f → (J M : List Join) (s : Join) → L ≡ J ++ s ∷ M → f s.left ≡ f s.right
together P L f t J M s e = go J (subst (λ (K : List Join). All (λ z. On P (left z) × On P (right z) × (f (left z) ≡ f (right z))) (reasons K)) e t.held)
  where
    go : (K : List Join) → All (λ z. On P (left z) × On P (right z) × (f (left z) ≡ f (right z))) (reasons (K ++ s ∷ M)) → f s.left ≡ f s.right
    go [] a =
        let h = All-head (λ z. On P (left z) × On P (right z) × (f (left z) ≡ f (right z))) (reason_of s) (reasons M) a in
        ap f (sym (left_is s.left s.right s.cause)) ∙ (h.2 ∙ ap f (right_is s.left s.right s.cause))
    go (k ∷ K) a = go K (All-tail (λ z. On P (left z) × On P (right z) × (f (left z) ≡ f (right z))) (reason_of k) (reasons (K ++ s ∷ M)) a)

-- where the classes are those of the closure, no chain goes on from the journal
pub nothing_more : (rs rs' : List ℕ) (P : List Picture) (E : List Entry) (J M : List Join) → Books rs P J → Closes P E (rep rs) → Books rs' P (J ++ M) → Derivation P E [] (reasons (J ++ M)) → M ≡ []
nothing_more rs rs' P E J [] b c b' d = refl
nothing_more rs rs' P E J (s ∷ M) b c b' d =
    absurd (derived_fresh P E (J ++ s ∷ M) d (length J) s (omega (arith, length-append J (s ∷ M)))
    (subst (λ (K : List Join). JoinedBy P (reasons K) (get_or (J ++ s ∷ M) (length J) s).left (get_or (J ++ s ∷ M) (length J) s).right) (sym (take_at J (s ∷ M) (length J) refl))
    (subst (λ (j : Join). JoinedBy P (reasons J) j.left j.right) (sym (get_or_at J s M s (length J) refl)) joined)))
  where
    on : On P s.left × On P s.right
    on = All-head (λ j. On P j.left × On P j.right) s M (all_back J (tracked_placed P (J ++ s ∷ M) (rep rs') b'.tracks))
      where
        all_back : (K : List Join) → All (λ j. On P j.left × On P j.right) (K ++ s ∷ M) → All (λ j. On P j.left × On P j.right) (s ∷ M)
        all_back [] a = a
        all_back (k ∷ K) a = all_back K (All-tail (λ j. On P j.left × On P j.right) k (K ++ s ∷ M) a)

    one : rep rs' s.left ≡ rep rs' s.right
    one = together P (J ++ s ∷ M) (rep rs') b'.tracks J M s refl

    joined : JoinedBy P (reasons J) s.left s.right
    joined = b.tracks.told s.left s.right on.0 on.1 ((c s.left s.right on.0 on.1).1 (sound rs' P E (J ++ s ∷ M) b' d s.left s.right on.0 on.1 one))

-- two lists of representatives that one journal tells have the same classes
pub closes_again : (rs rs' : List ℕ) (P : List Picture) (E : List Entry) (J : List Join) → Books rs P J → Books rs' P J → Closes P E (rep rs) → Closes P E (rep rs')
closes_again rs rs' P E J b b' c x y ox oy = (
  (λ e. (c x y ox oy).0 (tracks_law P (reasons J) (rep rs) b.tracks x y (b'.tracks.told x y ox oy e))),
  λ h. tracks_law P (reasons J) (rep rs') b'.tracks x y (b.tracks.told x y ox oy ((c x y ox oy).1 h)),
)

-- COUNTED
pub classes_told : (rs : List ℕ) (P : List Picture) (E : List Entry) (J : List Join) → Books rs P J → Closes P E (rep rs) → Classes P E (length P - length J)
classes_told rs P E J b c = (parts_law P E (rep rs) c (length P - length J)).0 b.classes

-- the lowest number with a representative is the lowest in its class
pub lowest_told : (rs : List ℕ) (P : List Picture) (E : List Entry) (p m : ℕ) → Ready rs P → Closes P E (rep rs) → On P p → Lowest-kept rs p m → Lowest P E p m
lowest_told rs P E p m r c op l =
    let om : On P m = (l.on.0, omega (arith, l.on.1, r.counted)) in
    ((c p m op om).0 (sym l.one), λ q h. l.least q (within rs P r q h.1) (sym ((c p q op h.1).1 h)))
