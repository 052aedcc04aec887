-- The joins of a journal made again, and rows noted anew. Assumes nothing.
use Rattle.std.proofs.Common.{◌≡◌, ℕ, zero, suc, ◌+◌, ◌<◌, ◌≤◌, true, false, List, [], ◌∷◌, ◌++◌, map, length, get_or, take, set, All, sym, ap, ◌∙◌, subst, ⊎_elim, arith}
use Rattle.std.specs.List.{range_with_len}
use Rattle.std.proofs.lemmas.Bool.{cases_eq, both_ways}
use Rattle.std.proofs.lemmas.List.FromFn.{map-range_with_len_more, get_or-range_with_len}
use Rattle.std.proofs.lemmas.List.Elements.{All-get_or, All-nil, All-cons, All-head, All-tail}
use Rattle.std.proofs.lemmas.List.{map-id, take_more, take-take, take-map, get_or-take, get_or-map, length-take, length-map}
use Rattle.theory.specs.Sheet.{Picture, Entry, On, picture}
use Rattle.theory.specs.Reasons.{Reason, left, right, JoinedBy, Derivation}
use Rattle.theory.specs.Journal.{Tracks}
use Rattle.theory.specs.Parts.{Parts}
use Rattle.theory.proofs.Parts.{parts_alone}
use Rattle.theory.proofs.Slices.{l_refl, l_more}
use Rattle.keepers.specs.Meaning.{rep, Unites}
use Rattle.keepers.specs.Reps.{united_length}
use Rattle.indexes.specs.Meaning.{Lead, held}
use Rattle.congruence.specs.declared.journal.Join.{Join}
use Rattle.congruence.specs.declared.picture.Picture.{Picture as Held}
use Rattle.congruence.specs.Drawn.{drawn, sheet, reason_of, reasons}
use Rattle.congruence.specs.Working.{Apart, Books, Fresh, Placed}
use Rattle.congruence.specs.Waiting.{row, noted, waits, Noted, Going}
use Rattle.congruence.proofs.Fusing.{going_noted}
use Rattle.congruence.proofs.Options.{none_some}
use Rattle.congruence.proofs.Journals.{left_is, right_is, books_join}
use Rattle.congruence.proofs.Posts.{at_set, at_other}
use Rattle.congruence.proofs.Sweeps.{row_of, waits_of, picture_at, sheet_set}

-- one number more
pub counting_more : (n : ℕ) → range_with_len 1 (n + 1) ≡ range_with_len 1 n ++ (n + 1) ∷ []
counting_more n =
    sym (map-id (range_with_len 1 (n + 1)))
    ∙ (map-range_with_len_more (λ x. x) 1 n (n + 1) (omega arith) ∙ ap (λ (xs : List ℕ). xs ++ (n + 1) ∷ []) (map-id (range_with_len 1 n)))

-- pictures that are each alone represent themselves
pub alone : (n x : ℕ) → 1 ≤ x → x ≤ n → rep (range_with_len 1 n) x ≡ x
alone n zero l u = absurd (omega arith)
alone n (suc i) l u = let e = get_or-range_with_len 1 n i 0 (omega arith) in omega (arith, e)

pub books_none : (P : List Picture) (rs : List ℕ) → rs ≡ range_with_len 1 (length P) → Books rs P []
books_none P rs e =
    record {
      tracks = record { told = λ x y ox oy h. subst (λ (z : ℕ). JoinedBy P [] x z) (sym (at x ox) ∙ (h ∙ at y oy)) (l_refl P [] x ox); held = All-nil _ };
      few = omega arith;
      classes = subst (Parts (rep rs) (length P)) (omega arith) (parts_alone (rep rs) (length P) (λ p q lp up lq uq h. sym (at p (lp, up)) ∙ (h ∙ at q (lq, uq))));
    }
  where
    at : (x : ℕ) → On P x → rep rs x ≡ x
    at x o = ap (λ (ts : List ℕ). rep ts x) e ∙ alone (length P) x o.0 o.1

-- ONE JOIN MADE AGAIN
module _ (P : List Picture) (J : List Join) (rs : List ℕ) (i : ℕ) (j : Join) (r : length rs ≡ length P) (b : Books rs P (take i J))
    (placed : All (Placed P) J) (fresh : Fresh P J) (l : i < length J) (is : j ≡ get_or J i j) where
  here : Placed P j
  here = subst (Placed P) (sym is) (All-get_or (Placed P) J i j l placed)

  pub replay_apart : Apart rs j
  replay_apart =
      record {
        left_on = (here.0.0, omega (arith, here.0.1, r));
        right_on = (here.1.0, omega (arith, here.1.1, r));
        apart = λ e. fresh i j l (subst (λ (z : Join). JoinedBy P (reasons (take i J)) z.left z.right) is (b.tracks.told j.left j.right here.0 here.1 e));
      }

  pub replay_more : (rs' : List ℕ) → Unites j.left j.right rs rs' → (length rs' ≡ length P) × Books rs' P (take (i + 1) J)
  replay_more rs' u = (
    united_length j.left j.right rs rs' u ∙ r,
    subst (Books rs' P) (ap (λ (z : Join). take i J ++ z ∷ []) is ∙ sym (take_more J i j l)) (books_join rs rs' P (take i J) j r b replay_apart u),
  )

pub fresh_take : (P : List Picture) (J : List Join) (to : ℕ) → Fresh P J → Fresh P (take to J)
fresh_take P J to f i d l h =
    let a : i < to = omega (arith, l, length-take to J) in
    let b : i < length J = omega (arith, l, length-take to J) in
    f i d b (subst (λ (z : List Join). JoinedBy P (reasons z) (get_or J i d).left (get_or J i d).right) (take-take i to J (omega arith))
    (subst (λ (z : Join). JoinedBy P (reasons (take i (take to J))) z.left z.right) (get_or-take to J i d a) h))

-- a reason chain joins nothing twice
chain_fresh : (P : List Picture) (E : List Entry) (S T : List Reason) → Derivation P E S T → (i : ℕ) (d : Reason) → i < length T →
    (V : List Reason) → ((Q : Reason → Type 0) → All Q S → All Q (take i T) → All Q V) → ¬ JoinedBy P V (left (get_or T i d)) (right (get_or T i d))
chain_fresh P E S [] c i d l V h = absurd (omega arith)
chain_fresh P E S (s ∷ T) c zero d l V h = λ k. c.1 (l_more P V S (λ Q a. h Q a (All-nil Q)) _ _ k)
chain_fresh P E S (s ∷ T) c (suc i) d l V h = chain_fresh P E (s ∷ S) T c.2 i d (omega arith) V (λ Q a b. h Q (All-tail Q s S a) (All-cons Q s (take i T) (All-head Q s S a) b))

pub derived_fresh : (P : List Picture) (E : List Entry) (J : List Join) → Derivation P E [] (reasons J) → Fresh P J
derived_fresh P E J c i d l k =
    chain_fresh P E [] (reasons J) c i (reason_of d) (omega (arith, l, length-map J reason_of)) (take i (reasons J)) (λ Q a b. b)
    (subst (λ (S : List Reason). JoinedBy P S (left (get_or (reasons J) i (reason_of d))) (right (get_or (reasons J) i (reason_of d)))) (sym (take-map reason_of i J))
    (subst (λ (s : Reason). JoinedBy P (reasons (take i J)) (left s) (right s)) (sym (get_or-map reason_of J i d (reason_of d) l))
    (subst (λ (x : ℕ). JoinedBy P (reasons (take i J)) x (right (reason_of (get_or J i d)))) (sym (left_is _ _ (get_or J i d).cause))
    (subst (JoinedBy P (reasons (take i J)) (get_or J i d).left) (sym (right_is _ _ (get_or J i d).cause)) k))))

-- the pictures of the joins are on the sheet
pub tracked_placed : (P : List Picture) (J : List Join) (f : ℕ → ℕ) → Tracks P (reasons J) f → All (Placed P) J
tracked_placed P J f t = go J t.held
  where
    go : (J : List Join) → All (λ s. On P (left s) × On P (right s) × (f (left s) ≡ f (right s))) (reasons J) → All (Placed P) J
    go [] a = All-nil (Placed P)
    go (j ∷ J) a =
        let h = All-head (λ s. On P (left s) × On P (right s) × (f (left s) ≡ f (right s))) (reason_of j) (reasons J) a in
        let t = All-tail (λ s. On P (left s) × On P (right s) × (f (left s) ≡ f (right s))) (reason_of j) (reasons J) a in
        All-cons (Placed P) j J (subst (On P) (left_is j.left j.right j.cause) h.0, subst (On P) (right_is j.left j.right j.cause) h.1) (go J t)

-- ROWS NOTED ANEW
-- the rows of the first i pictures are noted, and each of these waits
pub record Renoted (f : ℕ → ℕ) (i : ℕ) (ps₀ ps : List Held) : Type 0 where
  pub same : sheet ps ≡ sheet ps₀
  pub rows : (p : ℕ) → 1 ≤ p → p ≤ i → noted ps p ≡ row f (sheet ps₀) p
  pub late : (p : ℕ) → 1 ≤ p → p ≤ i → waits ps p ≡ true

module _ (ps₀ ps : List Held) (f : ℕ → ℕ) (i : ℕ) (old new : Held) (w : Renoted f i ps₀ ps) (l : i < length ps) (is : old ≡ get_or ps i old) where
  pub renoted_more : drawn new ≡ drawn old → row_of new ≡ map f (drawn old).inputs → new.waits ≡ true → Renoted f (i + 1) ps₀ (set ps i new)
  renoted_more ed e ew =
      record {
        same = sheet_set ps i old new is ed ∙ w.same;
        rows = λ p a b. ⊎_elim
            (λ q. subst (λ (y : ℕ). noted (set ps i new) y ≡ row f (sheet ps₀) y) (sym q)
            (at_set row_of [] ps i new l ∙ (e ∙ ap (λ (x : Picture). map f x.inputs) (sym own))))
            (λ ne. at_other row_of [] ps i p new ne ∙ w.rows p a (omega (arith, b, ne)))
            (cases_eq p (i + 1));
        late = λ p a b. ⊎_elim
            (λ q. ap (waits (set ps i new)) q ∙ (at_set waits_of false ps i new l ∙ ew))
            (λ ne. at_other waits_of false ps i p new ne ∙ w.late p a (omega (arith, b, ne)))
            (cases_eq p (i + 1));
      }
    where
      own : picture (sheet ps₀) (i + 1) ≡ drawn old
      own = ap (λ (Q : List Picture). picture Q (i + 1)) (sym w.same) ∙ (picture_at ps i old l ∙ ap drawn (sym is))

-- where all wait the index is empty
pub going_anew : (f : ℕ → ℕ) (ps₀ ps : List Held) (es : List Lead) → sheet ps ≡ sheet ps₀ → Noted f (sheet ps₀) (noted ps) → ((p : ℕ) → On (sheet ps₀) p → waits ps p ≡ true) → es ≡ [] → Going f ps (held es)
going_anew f ps₀ ps es s n w e =
    going_noted f (sheet ps₀) ps (held es) s n
    (record {
      finds = λ p o h b. absurd (both_ways (waits ps p) h (w p o));
      bears = λ o v q h. absurd (none_some (held es o v) q (ap (λ (t : List Lead). held t o v) e) h);
      meets = λ p q o h k. absurd (both_ways (waits ps p) h (w p o));
    })
