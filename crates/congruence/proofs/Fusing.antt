-- A join with the withdrawing after it. Assumes nothing.
use Rattle.std.proofs.Common.{◌≡◌, ℕ, List, [], ◌∷◌, ◌++◌, map, length, All, Option, sym, ap, ◌∙◌, subst}
use Rattle.std.proofs.lemmas.List.Elements.{All-weaker}
use Rattle.theory.specs.Sheet.{Picture, On, inputs}
use Rattle.keepers.specs.Meaning.{rep, Upto, Unites, moved}
use Rattle.congruence.specs.declared.picture.Picture.{Picture as Held}
use Rattle.congruence.specs.declared.journal.Join.{Join}
use Rattle.congruence.specs.Drawn.{sheet}
use Rattle.congruence.specs.Working.{Ready, Apart, Books}
use Rattle.congruence.specs.Waiting.{noted, waits, uses, Free, Every, Noted, Posted, Going, Working}
use Rattle.congruence.proofs.Moves.{Moves, moves_keeps, rows_moved, free_moved}
use Rattle.congruence.proofs.Journals.{within, inputs_on, ready_join, books_join}
use Rattle.congruence.proofs.Posts.{posted_coarser, posted_free}

-- the same pictures, of which other things are noted
pub going_noted : (f : ℕ → ℕ) (P : List Picture) (ps : List Held) (m : ℕ → List ℕ → Option ℕ) → sheet ps ≡ P → Noted f P (noted ps) → Posted f P (noted ps) m (waits ps) Every → Going f ps m
going_noted f P ps m e rows posted =
    record {
      rows = subst (λ (Q : List Picture). Noted f Q (noted ps)) (sym e) rows;
      posted = subst (λ (Q : List Picture). Posted f Q (noted ps) m (waits ps) Every) (sym e) posted;
    }

-- the rows and the index follow the classes
pub fused : (lost heir : ℕ) (rs : List ℕ) (g : ℕ → ℕ) (ps ps' : List Held) (m m' : ℕ → List ℕ → Option ℕ) → Ready rs (sheet ps) → Going (rep rs) ps m → Moves lost heir (length rs) (rep rs) g →
    sheet ps' ≡ sheet ps → ((p : ℕ) → On (sheet ps) p → noted ps' p ≡ map (moved lost heir) (noted ps p)) →
    ((f : ℕ → ℕ) → Posted f (sheet ps) (noted ps) m (waits ps) (Free lost) → Posted f (sheet ps) (noted ps') m' (waits ps') (Free lost)) → Going g ps' m'
fused lost heir rs g ps ps' m m' r go mv same rows posted =
    going_noted g P ps' m' same rows'
    (posted_free g P (noted ps') m' (waits ps') lost
    (λ p on. ap (uses lost) (rows' p on) ∙ free_moved lost heir (length rs) (rep rs) g mv (inputs P p) (inputs-within p on))
    (posted g (posted_coarser (rep rs) g P (noted ps) m (waits ps) Every (Free lost)
    (λ x y ox oy e. moves_keeps lost heir (length rs) (rep rs) g mv x y (within rs P r x ox) (within rs P r y oy) e) (λ w b. tt) go.posted)))
  where
    P : List Picture
    P = sheet ps

    inputs-within : (p : ℕ) → On P p → All (Upto (length rs)) (inputs P p)
    inputs-within p on = All-weaker (On P) (Upto (length rs)) (λ x o. within rs P r x o) (inputs P p) (inputs_on P r.ordered p on)

    rows' : Noted g P (noted ps')
    rows' p on = rows p on ∙ (ap (map (moved lost heir)) (go.rows p on) ∙ rows_moved lost heir (length rs) (rep rs) g mv (inputs P p) (inputs-within p on))

-- a join with the withdrawing after it
module _ (lost heir : ℕ) (rs rs' us : List ℕ) (ps qs ws : List Held) (m m' : ℕ → List ℕ → Option ℕ) (J J' : List Join) (j : Join) (w : Working rs ps m J) (a : Apart rs j) (u : Unites j.left j.right rs rs')
    (mv : Moves lost heir (length rs) (rep rs) (rep rs')) (is : qs ≡ ps) (same : sheet ws ≡ sheet qs) (rows : (p : ℕ) → On (sheet qs) p → noted ws p ≡ map (moved lost heir) (noted qs p))
    (posted : (f : ℕ → ℕ) → Posted f (sheet qs) (noted qs) m (waits qs) (Free lost) → Posted f (sheet qs) (noted ws) m' (waits ws) (Free lost)) where
  go : Going (rep rs) qs m
  go = subst (λ (xs : List Held). Going (rep rs) xs m) (sym is) w.going

  ready : Ready rs (sheet qs)
  ready = subst (λ (xs : List Held). Ready rs (sheet xs)) (sym is) w.ready

  alike : sheet ws ≡ sheet ps
  alike = same ∙ ap sheet is

  pub merged : (xs : List Held) → xs ≡ ws → us ≡ rs' → J' ≡ J ++ j ∷ [] → Working us xs m' J'
  merged xs ex eu ej =
      subst (λ (ts : List ℕ). Working ts xs m' J') (sym eu)
      (subst (λ (K : List Join). Working rs' xs m' K) (sym ej)
      (subst (λ (zs : List Held). Working rs' zs m' (J ++ j ∷ [])) (sym ex)
      (record {
        ready = subst (Ready rs') (sym alike) (ready_join rs rs' (sheet ps) j w.ready u);
        books = subst (λ (P : List Picture). Books rs' P (J ++ j ∷ [])) (sym alike) (books_join rs rs' (sheet ps) J j w.ready.counted w.books a u);
        going = fused lost heir rs (rep rs') qs ws m m' ready go mv same rows posted;
      })))
