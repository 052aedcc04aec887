-- One picture more, in a class of its own, which waits. Assumes nothing.
use Rattle.std.proofs.Common.{◌≡◌, ℕ, zero, suc, ◌+◌, ◌-◌, ◌<◌, ◌≤◌, true, false, ◌⊎◌, List, [], ◌∷◌, ◌++◌, map, length, get_or, All, Option, sym, refl, ap, ◌∙◌, subst, subst₂, ap₂, inl, inr, arith}
use native.Mathlib.Decide.{dec_le}
use Rattle.std.proofs.lemmas.List.Elements.{All-weaker, All-head, All-tail}
use Rattle.std.proofs.lemmas.Bool.{both_ways}
use Rattle.std.proofs.lemmas.List.{length_push, map-append, get_or_append_left, get_or_push, length-map, length-take}
use Rattle.theory.specs.Sheet.{Picture, On, operation, inputs}
use Rattle.theory.specs.Reasons.{left, right, JoinedBy}
use Rattle.theory.specs.Parts.{Parts}
use Rattle.theory.proofs.Growing.{longer, on_more, kept_picture, new_picture, ordered_more}
use Rattle.theory.proofs.Journals.{up, tracks_law}
use Rattle.theory.proofs.Parts.{parts_grown}
use Rattle.theory.proofs.Slices.{l_refl}
use Rattle.keepers.specs.Meaning.{rep, Upto, Settled}
use Rattle.rows.specs.Row.{cells_of}
use Rattle.keepers.specs.Reps.{rep_old, rep_new}
use Rattle.congruence.specs.declared.journal.Join.{Join}
use Rattle.congruence.specs.declared.picture.Picture.{Picture as Held}
use Rattle.congruence.specs.Drawn.{drawn, sheet, reasons}
use Rattle.congruence.specs.Working.{Ready, Books, Fed, Grows, Any}
use Rattle.congruence.specs.Waiting.{row, noted, waits, Every, Posted, Working}
use Rattle.congruence.proofs.Journals.{within, inputs_on, joined_more}
use Rattle.congruence.proofs.Fusing.{going_noted}
use Rattle.congruence.proofs.Sweeps.{row_of, waits_of}

-- what is numbered from one, with one more at the end
number_old : {X Y : Type 0} (g : X → Y) (z : Y) (xs : List X) (x : X) (p : ℕ) → p ≤ length xs → get_or (z ∷ map g (xs ++ x ∷ [])) p z ≡ get_or (z ∷ map g xs) p z
number_old g z xs x zero l = refl
number_old g z xs x (suc i) l = ap (λ ys. get_or ys i z) (map-append g xs (x ∷ [])) ∙ get_or_append_left (map g xs) (g x ∷ []) z i (omega (arith, l, length-map xs g))

number_new : {X Y : Type 0} (g : X → Y) (z : Y) (xs : List X) (x : X) (p : ℕ) → p ≡ suc (length xs) → get_or (z ∷ map g (xs ++ x ∷ [])) p z ≡ g x
number_new g z xs x zero e = absurd (omega arith)
number_new g z xs x (suc i) e = ap (λ ys. get_or ys i z) (map-append g xs (x ∷ [])) ∙ get_or_push (map g xs) (g x) z i (omega (arith, e, length-map xs g))

module _ (rs rs' : List ℕ) (ps : List Held) (h : Held) (m : ℕ → List ℕ → Option ℕ) (J : List Join) (n : ℕ)
    (w : Working rs ps m J) (set : Settled rs) (few : length ps < 1024) (is-n : n ≡ length rs + 1) (grown : rs' ≡ rs ++ n ∷ []) (fed : All (On (sheet ps)) (drawn h).inputs) (short : length (drawn h).inputs ≤ 4)
    (own_row : row_of h ≡ map (rep rs') (drawn h).inputs) (late : h.waits ≡ true) where
  abbrev P : List Picture
  P = sheet ps

  abbrev x : Picture
  x = drawn h

  abbrev P' : List Picture
  P' = P ++ x ∷ []

  abbrev ps' : List Held
  ps' = ps ++ h ∷ []

  -- the sheet has one picture more
  pushed : sheet ps' ≡ P'
  pushed = map-append drawn ps (h ∷ [])

  sized : length ps ≡ length P
  sized = sym (length-map ps drawn)

  count : length rs ≡ length P
  count = w.ready.counted

  old_or_new : (p : ℕ) → On P' p → On P p ⊎ (p ≡ suc (length P))
  old_or_new p o = go (dec_le p (length P))
    where
      go : Dec (p ≤ length P) → On P p ⊎ (p ≡ suc (length P))
      go (yes h) = inl (o.0, h)
      go (no h) = inr (omega (arith, o.1, longer P x))

  old : (p : ℕ) → On P p → rep rs' p ≡ rep rs p
  old p o = ap (λ (r : List ℕ). rep r p) grown ∙ rep_old rs n p (within rs P w.ready p o)

  new : (p : ℕ) → p ≡ suc (length P) → rep rs' p ≡ p
  new p e = ap (λ (r : List ℕ). rep r p) grown ∙ (rep_new rs n p (omega (arith, e, count)) ∙ omega (arith, is-n, e, count))

  low : (p : ℕ) → On P p → rep rs' p ≤ length P
  low p o = let s = (set p (within rs P w.ready p o)).0.1 in omega (arith, s, old p o, count)

  rows_old : (xs : List ℕ) → All (On P) xs → map (rep rs') xs ≡ map (rep rs) xs
  rows_old [] a = refl
  rows_old (y ∷ ys) a = ap₂ ◌∷◌ (old y (All-head (On P) y ys a)) (rows_old ys (All-tail (On P) y ys a))

  ready : Ready rs' P'
  ready =
      record {
        counted = ap length grown ∙ (length_push rs n ∙ omega (arith, count, longer P x));
        few = omega (arith, few, longer P x, sized);
        ordered = ordered_more P x w.ready.ordered short fed;
      }

  books : Books rs' P' J
  books =
      record {
        tracks = record {
          told = λ p q op oq e. told p q (old_or_new p op) (old_or_new q oq) op oq e;
          held = All-weaker (λ s. On P (left s) × On P (right s) × (rep rs (left s) ≡ rep rs (right s)))
              (λ s. On P' (left s) × On P' (right s) × (rep rs' (left s) ≡ rep rs' (right s))) (λ s h. (on_more P x (left s) h.0, on_more P x (right s) h.1, old (left s) h.0 ∙ (h.2 ∙ sym (old (right s) h.1)))) (reasons J) w.books.tracks.held;
        };
        few = omega (arith, w.books.few, longer P x);
        classes = subst (λ (k : ℕ). Parts (rep rs') k (k - length J)) (sym (longer P x)) (subst (Parts (rep rs') (suc (length P))) (omega (arith, w.books.few))
            (parts_grown (rep rs) (rep rs') (length P) (length P - length J) (λ p l u. old p (l, u))
            (λ p l u e. let a = low p (l, u) in let b = new (suc (length P)) refl in omega (arith, a, b, e)) w.books.classes));
      }
    where
      told : (p q : ℕ) → On P p ⊎ (p ≡ suc (length P)) → On P q ⊎ (q ≡ suc (length P)) → On P' p → On P' q → rep rs' p ≡ rep rs' q → JoinedBy P' (reasons J) p q
      told p q (inl a) (inl b) op oq e = up P x (reasons J) p q (w.books.tracks.told p q a b (sym (old p a) ∙ (e ∙ old q b)))
      told p q (inl a) (inr b) op oq e = let i = low p a in let j = new q b in absurd (omega (arith, i, j, e, b))
      told p q (inr a) (inl b) op oq e = let i = low q b in let j = new p a in absurd (omega (arith, i, j, e, a))
      told p q (inr a) (inr b) op oq e = subst (λ (z : ℕ). JoinedBy P' (reasons J) p z) (a ∙ sym b) (l_refl P' (reasons J) p op)

  row_old : (p : ℕ) → On P p → noted ps' p ≡ noted ps p
  row_old p o = number_old row_of [] ps h p (omega (arith, o.1, sized))

  wait_old : (p : ℕ) → On P p → waits ps' p ≡ waits ps p
  wait_old p o = number_old waits_of false ps h p (omega (arith, o.1, sized))

  wait_new : (p : ℕ) → p ≡ suc (length P) → waits ps' p ≡ true
  wait_new p e = number_new waits_of false ps h p (omega (arith, e, sized)) ∙ late

  picture_old : (p : ℕ) → On P p → operation P' p ≡ operation P p
  picture_old p o = ap (λ (y : Picture). y.operation) (kept_picture P x p o.1)

  inputs_old : (p : ℕ) → On P p → inputs P' p ≡ inputs P p
  inputs_old p o = ap (λ (y : Picture). y.inputs) (kept_picture P x p o.1)

  noted_all : (p : ℕ) → On P' p → noted ps' p ≡ row (rep rs') P' p
  noted_all p op = go (old_or_new p op)
    where
      go : On P p ⊎ (p ≡ suc (length P)) → noted ps' p ≡ row (rep rs') P' p
      go (inl o) = row_old p o ∙ (w.going.rows p o ∙ (sym (rows_old (inputs P p) (inputs_on P w.ready.ordered p o)) ∙ ap (map (rep rs')) (sym (inputs_old p o))))
      go (inr e) = number_new row_of [] ps h p (omega (arith, e, sized)) ∙ (own_row ∙ ap (λ (y : Picture). map (rep rs') y.inputs) (sym (new_picture P x p e)))

  old_one : (p : ℕ) → On P' p → waits ps' p ≡ false → On P p
  old_one p op h = go (old_or_new p op)
    where
      go : On P p ⊎ (p ≡ suc (length P)) → On P p
      go (inl o) = o
      go (inr e) = absurd (both_ways (waits ps' p) h (wait_new p e))

  posted : Posted (rep rs') P' (noted ps') m (waits ps') Every
  posted =
      record {
        finds = λ p op h b. let o = old_one p op h in let k = w.going.posted.finds p o (sym (wait_old p o) ∙ h) tt in (k.0, ap₂ m (picture_old p o) (row_old p o) ∙ k.1);
        bears = λ o v q h. let b = w.going.posted.bears o v q h in (on_more P x q b.0, wait_old q b.0 ∙ b.1, picture_old q b.0 ∙ b.2, row_old q b.0 ∙ b.3);
        meets = λ p q op h k.
            let o = old_one p op h in
            let e = ap₂ m (sym (picture_old p o)) (sym (row_old p o)) ∙ k in
            let b = w.going.posted.bears _ _ q e in
            old q b.0 ∙ (w.going.posted.meets p q o (sym (wait_old p o) ∙ h) e ∙ sym (old p o));
      }

  pub grown_working : Working rs' (ps ++ h ∷ []) m J
  grown_working =
      record {
        ready = subst (Ready rs') (sym pushed) ready;
        books = subst (λ (Q : List Picture). Books rs' Q J) (sym pushed) books;
        going = going_noted (rep rs') P' ps' m pushed noted_all posted;
      }

-- the same, as it is drawn
pub drawn_working : (rs rs' us : List ℕ) (ps qs : List Held) (h : Held) (m : ℕ → List ℕ → Option ℕ) (J : List Join) (n : ℕ) → Working rs ps m J → Settled rs → length ps < 1024 → n ≡ length rs + 1 → rs' ≡ rs ++ n ∷ [] →
    Fed (length ps) h → row_of h ≡ map (rep rs') (drawn h).inputs → h.waits ≡ true → qs ≡ ps ++ h ∷ [] → us ≡ rs' → Working us qs m J
drawn_working rs rs' us ps qs h m J n w set few is-n grown fed own late pushed same =
    let l = length-map ps drawn in
    let on : All (On (sheet ps)) (drawn h).inputs = All-weaker (Upto (length ps)) (On (sheet ps)) (λ x u. (u.0, omega (arith, u.1, l))) (cells_of h.inputs) fed in
    let k = length-take h.inputs.len h.inputs.cells in
    subst₂ (λ (ts : List ℕ) (xs : List Held). Working ts xs m J) (sym same) (sym pushed)
    (grown_working rs rs' ps h m J n w set few is-n grown on (omega (arith, k, h.inputs.short)) own late)

-- what was together is together once a picture is drawn
pub drawn_coarser : (rs rs' : List ℕ) (P : List Picture) (x : Picture) (J J' : List Join) → Books rs P J → Books rs' (P ++ x ∷ []) J' → Grows (P ++ x ∷ []) Any J J' →
    (p q : ℕ) → On P p → On P q → rep rs p ≡ rep rs q → rep rs' p ≡ rep rs' q
drawn_coarser rs rs' P x J J' b b' g p q op oq e =
    tracks_law (P ++ x ∷ []) (reasons J') (rep rs') b'.tracks p q
    (subst (λ (K : List Join). JoinedBy (P ++ x ∷ []) (reasons K) p q) (sym g.is)
    (joined_more (P ++ x ∷ []) J g.more p q (up P x (reasons J) p q (b.tracks.told p q op oq e))))
