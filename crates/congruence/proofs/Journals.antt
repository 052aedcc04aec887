-- The journal as classes are joined. Assumes nothing.
use Rattle.std.proofs.Common.{◌≡◌, ℕ, suc, ◌-◌, ◌<◌, ◌≤◌, List, [], ◌∷◌, ◌++◌, length, All, sym, refl, ap, ◌∙◌, subst, append_assoc, arith}
use Rattle.std.specs.List.{AllZip}
use Rattle.std.proofs.lemmas.List.Elements.{All-weaker, All-nil, All-cons, All-head, All-tail}
use Rattle.std.proofs.lemmas.List.{map-append, length_push, append-nil}
use Rattle.theory.specs.Sheet.{Picture, Entry, On, Ordered, inputs}
use Rattle.theory.specs.Reasons.{Reason, left, right, JoinedBy, Fits, Derivation}
use Rattle.theory.specs.Journal.{Tracks}
use Rattle.theory.specs.Parts.{Parts, Joins}
use Rattle.theory.proofs.Journals.{join_more_law, tracks_law, tracks_more_law}
use Rattle.theory.proofs.Parts.{parts_joined}
use Rattle.theory.proofs.Slices.{l_more}
use Rattle.keepers.specs.Meaning.{rep, Within, Unites}
use Rattle.keepers.specs.Reps.{united_length}
use Rattle.congruence.specs.declared.journal.Join.{Join}
use Rattle.congruence.specs.declared.journal.Cause.{Cause}
use Rattle.congruence.specs.declared.journal.Cause.TheVariants.{Entry as By-entry, Twins as By-twins}
use Rattle.congruence.specs.Drawn.{reason, reason_of, reasons}
use Rattle.congruence.specs.Working.{Together, Ready, Apart, Books, Grows, Any}
use Rattle.congruence.specs.Waiting.{TwinsApart}
use Rattle.congruence.proofs.Moves.{unites_joins}

pub left_is : (l r : ℕ) (c : Cause) → left (reason l r c) ≡ l
left_is l r (By-entry k) = refl
left_is l r By-twins = refl

pub right_is : (l r : ℕ) (c : Cause) → right (reason l r c) ≡ r
right_is l r (By-entry k) = refl
right_is l r By-twins = refl

pub reasons_more : (J : List Join) (j : Join) → reasons (J ++ j ∷ []) ≡ reasons J ++ reason_of j ∷ []
reasons_more J j = map-append reason_of J (j ∷ [])

-- on the sheet is within the keeper's count
pub within : (rs : List ℕ) (P : List Picture) → Ready rs P → (x : ℕ) → On P x → Within rs x
within rs P r x o = (o.0, omega (arith, o.1, r.counted))

pub inputs_on : (P : List Picture) → Ordered P → (p : ℕ) → On P p → All (On P) (inputs P p)
inputs_on P o p on = All-weaker (λ i. (1 ≤ i) × (i < p)) (On P) (λ i h. (h.0, omega (arith, h.1, on.1))) (inputs P p) (o p on).1

pub ready_join : (rs rs' : List ℕ) (P : List Picture) (j : Join) → Ready rs P → Unites j.left j.right rs rs' → Ready rs' P
ready_join rs rs' P j r u = record { counted = united_length j.left j.right rs rs' u ∙ r.counted; few = r.few; ordered = r.ordered }

-- ONE JOIN
module _ (rs rs' : List ℕ) (P : List Picture) (J : List Join) (j : Join) (r : length rs ≡ length P) (b : Books rs P J) (a : Apart rs j) (u : Unites j.left j.right rs rs') where
  left-on : On P j.left
  left-on = (a.left_on.0, omega (arith, a.left_on.1, r))

  right-on : On P j.right
  right-on = (a.right_on.0, omega (arith, a.right_on.1, r))

  joins : Joins (rep rs) (rep rs') (length P) j.left j.right
  joins = subst (λ (n : ℕ). Joins (rep rs) (rep rs') n j.left j.right) r (unites_joins j.left j.right rs rs' a.left_on a.right_on a.apart u)

  fewer : (k : ℕ) × (length P - length J ≡ suc k) × Parts (rep rs') (length P) k
  fewer = parts_joined (rep rs) (rep rs') (length P) j.left j.right left-on.0 left-on.1 right-on.0 right-on.1 a.apart joins (length P - length J) b.classes

  pub books_join : Books rs' P (J ++ j ∷ [])
  books_join =
      record {
        tracks = subst (λ (S : List Reason). Tracks P S (rep rs')) (sym (reasons_more J j)) (tracks_more_law P (reasons J) (reason_of j) (rep rs) (rep rs') b.tracks
            (subst (On P) (sym el) left-on) (subst (On P) (sym er) right-on)
            (subst (λ (x : ℕ). Joins (rep rs) (rep rs') (length P) x (right (reason_of j))) (sym el) (subst (λ (x : ℕ). Joins (rep rs) (rep rs') (length P) j.left x) (sym er) joins)));
        few = omega (arith, fewer.1, length_push J j);
        classes = subst (Parts (rep rs') (length P)) (omega (arith, fewer.1, length_push J j)) fewer.2;
      }
    where
      el : left (reason_of j) ≡ j.left
      el = left_is j.left j.right j.cause

      er : right (reason_of j) ≡ j.right
      er = right_is j.left j.right j.cause

-- what is apart is not joined by the journal
pub not_joined : (rs : List ℕ) (P : List Picture) (J : List Join) (j : Join) → Books rs P J → Apart rs j → ¬ JoinedBy P (reasons J) (left (reason_of j)) (right (reason_of j))
not_joined rs P J j b a l =
    a.apart (ap (rep rs) (sym (left_is j.left j.right j.cause)) ∙ (tracks_law P (reasons J) (rep rs) b.tracks _ _ l ∙ ap (rep rs) (right_is j.left j.right j.cause)))

-- A JOURNAL THAT GROWS
pub grows_none : (P : List Picture) (Q : List Entry → Type 0) (J : List Join) → Grows P Q J J
grows_none P Q J = record { more = []; is = sym (append-nil J); derives = λ E q d. d }

pub grows_join : (rs : List ℕ) (P : List Picture) (Q : List Entry → Type 0) (J J' : List Join) (j : Join) → Books rs P J' → Apart rs j →
    ((E : List Entry) → Q E → Fits P E (reasons J') (reason_of j)) → Grows P Q J J' → Grows P Q J (J' ++ j ∷ [])
grows_join rs P Q J J' j b a fit g =
    record {
      more = g.more ++ j ∷ [];
      is = ap (λ (xs : List Join). xs ++ j ∷ []) g.is ∙ append_assoc J g.more (j ∷ []);
      derives = λ E q d. subst (Derivation P E []) (sym (reasons_more J' j)) (join_more_law P E (reasons J') (reason_of j) (g.derives E q d) (fit E q) (not_joined rs P J' j b a));
    }

pub grows_then : (P : List Picture) (Q : List Entry → Type 0) (J J' J'' : List Join) → Grows P Q J J' → Grows P Any J' J'' → Grows P Q J J''
grows_then P Q J J' J'' g h =
    record {
      more = g.more ++ h.more;
      is = h.is ∙ (ap (λ (xs : List Join). xs ++ h.more) g.is ∙ append_assoc J g.more h.more);
      derives = λ E q d. h.derives E tt (g.derives E q d);
    }

each_joined : (P : List Picture) (S : List Reason) (f : ℕ → ℕ) → Tracks P S f → (xs ys : List ℕ) → All (On P) xs → All (On P) ys → AllZip (Together f) xs ys → AllZip (JoinedBy P S) xs ys
each_joined P S f t [] [] a b e = tt
each_joined P S f t [] (y ∷ ys) a b e = absurd e
each_joined P S f t (x ∷ xs) [] a b e = absurd e
each_joined P S f t (x ∷ xs) (y ∷ ys) a b e = (
  t.told x y (All-head (On P) x xs a) (All-head (On P) y ys b) e.0,
  each_joined P S f t xs ys (All-tail (On P) x xs a) (All-tail (On P) y ys b) e.1,
)

-- two twins are a right step, whatever the entries
pub twins_fit : (rs : List ℕ) (P : List Picture) (J : List Join) (j : Join) → Ready rs P → Books rs P J → TwinsApart (rep rs) P j.left j.right → j.cause ≡ By-twins →
    (E : List Entry) → Fits P E (reasons J) (reason_of j)
twins_fit rs P J j r b t c E =
    subst (Fits P E (reasons J)) (ap (reason j.left j.right) (sym c)) (
      t.left_on,
      t.right_on,
      (
        t.twins.0,
        each_joined P (reasons J) (rep rs) b.tracks (inputs P j.left) (inputs P j.right)
            (inputs_on P r.ordered j.left t.left_on) (inputs_on P r.ordered j.right t.right_on) t.twins.1,
      ),
    )

pub twins_are_apart : (rs : List ℕ) (P : List Picture) (j : Join) → Ready rs P → TwinsApart (rep rs) P j.left j.right → Apart rs j
twins_are_apart rs P j r t = record { left_on = within rs P r j.left t.left_on; right_on = within rs P r j.right t.right_on; apart = t.apart }

-- a join of two twins
pub grows_twins : (rs : List ℕ) (P : List Picture) (J J' J'' : List Join) (j : Join) → Ready rs P → Books rs P J' → TwinsApart (rep rs) P j.left j.right → j.cause ≡ By-twins →
    Grows P Any J J' → J'' ≡ J' ++ j ∷ [] → Grows P Any J J''
grows_twins rs P J J' J'' j r b t c g e =
    subst (Grows P Any J) (sym e) (grows_join rs P Any J J' j b (twins_are_apart rs P j r t) (λ E q. twins_fit rs P J' j r b t c E) g)

-- what was together stays together
all_front : {X : Type 0} (Q : X → Type 0) (xs ys : List X) → All Q (xs ++ ys) → All Q xs
all_front Q [] ys a = All-nil Q
all_front Q (x ∷ xs) ys a = All-cons Q x xs (All-head Q x (xs ++ ys) a) (all_front Q xs ys (All-tail Q x (xs ++ ys) a))

pub joined_more : (P : List Picture) (J M : List Join) (x y : ℕ) → JoinedBy P (reasons J) x y → JoinedBy P (reasons (J ++ M)) x y
joined_more P J M x y l =
    l_more P (reasons J) (reasons (J ++ M)) (λ Q a. all_front Q (reasons J) (reasons M) (subst (All Q) (map-append reason_of J M) a)) x y l

pub grows_coarser : (rs rs' : List ℕ) (P : List Picture) (Q : List Entry → Type 0) (J J' : List Join) → Books rs P J → Books rs' P J' → Grows P Q J J' →
    (x y : ℕ) → On P x → On P y → rep rs x ≡ rep rs y → rep rs' x ≡ rep rs' y
grows_coarser rs rs' P Q J J' b b' g x y ox oy e =
    tracks_law P (reasons J') (rep rs') b'.tracks x y
    (subst (λ (K : List Join). JoinedBy P (reasons K) x y) (sym g.is) (joined_more P J g.more x y (b.tracks.told x y ox oy e)))
