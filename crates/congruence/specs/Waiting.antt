-- The index while classes are joined. A picture waits while its signature has changed and is not entered again. ps are the pictures with what is noted
-- of each, m is the map of the index. Assumes nothing.
use Rattle.std.specs.Prelude.{◌≡◌, ℕ, Bool, true, false, ◌||◌, ◌≢◌, ◌⊎◌, List, [], ◌∷◌, map, Some, None, Option, ◌==◌, slice_index_or}
use Rattle.keepers.specs.Meaning.{rep, Within}
use Rattle.rows.specs.Row.{cells_of}
use Rattle.indexes.specs.Meaning.{leading}
use Rattle.theory.specs.Sheet.{Picture, On, operation, inputs, Twins}
use Rattle.congruence.specs.declared.picture.Picture.{Picture as Held}
use Rattle.congruence.specs.declared.journal.Join.{Join}
use Rattle.congruence.specs.declared.journal.Cause.TheVariants.{Twins as By-twins}
use Rattle.congruence.specs.Drawn.{drawn, sheet}
use Rattle.congruence.specs.Working.{Together, Ready, Books}

-- the row of the signature of picture p: the representatives of its inputs
abbrev pub row : (ℕ → ℕ) → List Picture → ℕ → List ℕ
row f P p = map f (inputs P p)

-- the row that is noted for picture p
abbrev pub noted : List Held → ℕ → List ℕ
noted ps p = slice_index_or ([] ∷ map (λ (h : Held). cells_of h.row) ps) p []

-- whether picture p waits
abbrev pub waits : List Held → ℕ → Bool
waits ps p = slice_index_or (false ∷ map (λ (h : Held). h.waits) ps) p false

-- whether a row has the number x
abbrev pub uses : ℕ → List ℕ → Bool
uses x [] = false
uses x (y ∷ ys) = y == x || uses x ys

-- a row without the number x
abbrev pub Free : ℕ → List ℕ → Type 0
Free x w = uses x w ≡ false

-- any row
abbrev pub Every : List ℕ → Type 0
Every w = Unit {0}

-- the noted rows are those of the signatures
abbrev pub Noted : (ℕ → ℕ) → List Picture → (ℕ → List ℕ) → Type 0
Noted f P ω = (p : ℕ) → On P p → ω p ≡ row f P p

-- the index leads from the noted signature of each picture that does not wait, if its row is in A, and only to pictures that do not wait and bear the
-- signature; and it leads into their class
pub record Posted (f : ℕ → ℕ) (P : List Picture) (ω : ℕ → List ℕ) (m : ℕ → List ℕ → Option ℕ) (wait : ℕ → Bool) (A : List ℕ → Type 0) : Type 0 where
  pub finds : (p : ℕ) → On P p → wait p ≡ false → A (ω p) → (q : ℕ) × (m (operation P p) (ω p) ≡ Some q)
  pub bears : (o : ℕ) (w : List ℕ) (q : ℕ) → m o w ≡ Some q → On P q × (wait q ≡ false) × (operation P q ≡ o) × (ω q ≡ w)
  pub meets : (p q : ℕ) → On P p → wait p ≡ false → m (operation P p) (ω p) ≡ Some q → f q ≡ f p

-- what is noted of the pictures, and the index, between two joins
pub record Going (f : ℕ → ℕ) (ps : List Held) (m : ℕ → List ℕ → Option ℕ) : Type 0 where
  pub rows : Noted f (sheet ps) (noted ps)
  pub posted : Posted f (sheet ps) (noted ps) m (waits ps) Every

-- no picture waits
abbrev pub Idle : List Held → Type 0
Idle ps = (p : ℕ) → On (sheet ps) p → waits ps p ≡ false

-- The index gives, for each signature borne by a picture on the sheet, one picture that bears it, and nothing for any other.
pub record Exact (f : ℕ → ℕ) (P : List Picture) (m : ℕ → List ℕ → Option ℕ) : Type 0 where
  pub finds : (p : ℕ) → On P p → (q : ℕ) × (m (operation P p) (row f P p) ≡ Some q)
  pub bears : (o : ℕ) (w : List ℕ) (q : ℕ) → m o w ≡ Some q → On P q × (operation P q ≡ o) × (row f P q ≡ w)

-- classes, journal, pictures and index between two joins
pub record Working (rs : List ℕ) (ps : List Held) (m : ℕ → List ℕ → Option ℕ) (J : List Join) : Type 0 where
  pub ready : Ready rs (sheet ps)
  pub books : Books rs (sheet ps) J
  pub going : Going (rep rs) ps m

-- two twins of different classes
pub record TwinsApart (f : ℕ → ℕ) (P : List Picture) (l r : ℕ) : Type 0 where
  pub left_on : On P l
  pub right_on : On P r
  pub twins : Twins P (Together f) l r
  pub apart : f l ≢ f r

-- q is a picture of another class than p
pub record Another (rs : List ℕ) (p q : ℕ) : Type 0 where
  pub on : Within rs q
  pub other : rep rs q ≢ rep rs p

-- the answer of a look at the pictures that wait: two twins to join, or none waits
abbrev pub Swept : (ℕ → ℕ) → List Held → Option Join → Type 0
Swept f ps None = Idle ps
Swept f ps (Some j) = TwinsApart f (sheet ps) j.left j.right × (j.cause ≡ By-twins)

-- what a look at picture p with the signature o w does: it is entered, or leads into the class of p already; or it leads to a picture of another class
abbrev pub Visited : (ℕ → ℕ) → (ℕ → List ℕ → Option ℕ) → (ℕ → List ℕ → Option ℕ) → ℕ → List ℕ → ℕ → Option ℕ → Type 0
Visited f m m' o w p None =
    ((m o w ≡ None) × ((q : ℕ) (v : List ℕ) → m' q v ≡ leading m o w (Some p) q v))
    ⊎ (((q : ℕ) × (m o w ≡ Some q) × (f q ≡ f p)) × ((q : ℕ) (v : List ℕ) → m' q v ≡ m q v))
Visited f m m' o w p (Some q) = (m o w ≡ Some q) × (f q ≢ f p) × ((r : ℕ) (v : List ℕ) → m' r v ≡ m r v)

-- what a look at picture p does where it may wait: nothing, or it is visited and waits no more, or it leads to a picture of another class. h is the picture
-- before, h' after.
abbrev pub Looked : (ℕ → ℕ) → (ℕ → List ℕ → Option ℕ) → (ℕ → List ℕ → Option ℕ) → ℕ → Held → Held → Option ℕ → Type 0
Looked f m m' p h h' None =
    ((h.waits ≡ false) × (h' ≡ h) × ((q : ℕ) (v : List ℕ) → m' q v ≡ m q v))
    ⊎ ((h.waits ≡ true) × (h'.row ≡ h.row) × (h'.waits ≡ false) × Visited f m m' h.op (cells_of h.row) p None)
Looked f m m' p h h' (Some q) = (h.waits ≡ true) × (h' ≡ h) × Visited f m m' h.op (cells_of h.row) p (Some q)

-- what withdrawing one picture does: where its row has the lost representative, its signature leaves the index, its row has the heir instead, and it
-- waits; else nothing changes
abbrev pub Withdrawn : (ℕ → ℕ) → ℕ → Held → Held → (ℕ → List ℕ → Option ℕ) → (ℕ → List ℕ → Option ℕ) → Type 0
Withdrawn rename lost h h' m m' =
    ((uses lost (cells_of h.row) ≡ false) × (h' ≡ h) × ((q : ℕ) (v : List ℕ) → m' q v ≡ m q v))
    ⊎ ((uses lost (cells_of h.row) ≡ true) × (drawn h' ≡ drawn h) × (cells_of h'.row ≡ map rename (cells_of h.row)) × (h'.waits ≡ true)
    × ((q : ℕ) (v : List ℕ) → m' q v ≡ leading m h.op (cells_of h.row) None q v))
