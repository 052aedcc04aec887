-- One turn of a look at the pictures that wait, and one turn of withdrawing. Assumes nothing.
use Rattle.std.proofs.Common.{◌≡◌, ℕ, ◌+◌, ◌-◌, ◌<◌, ◌≤◌, Bool, true, false, List, [], map, length, get_or, set, Some, None, Option, sym, ap, ◌∙◌, subst, subst₂, inl, inr, ⊎_elim, add-one, arith}
use Rattle.std.proofs.Math.Seq.{map-set_same}
use Rattle.std.proofs.lemmas.Bool.{cases_eq, both_ways}
use Rattle.std.proofs.lemmas.List.{length-map, get_or-map, set-get_or}
use Rattle.theory.specs.Sheet.{Picture, blank, picture, On, operation}
use Rattle.keepers.specs.Meaning.{Upto, rep, moved}
use Rattle.rows.specs.Row.{cells_of}
use Rattle.indexes.specs.Meaning.{Lead, held, apart, leading}
use Rattle.congruence.specs.declared.picture.Picture.{Picture as Held}
use Rattle.congruence.specs.Drawn.{drawn, sheet}
use Rattle.congruence.specs.Working.{Ready, Inward}
use Rattle.congruence.specs.Waiting.{noted, waits, uses, Free, Every, Posted, Going, TwinsApart, Visited, Looked, Withdrawn}
use Rattle.congruence.proofs.Posts.{at_number, at_set, at_other, free_renamed, posted_shift, posted_index, posted_visited, posted_apart}
use Rattle.congruence.proofs.Pigeons.{pigeons_but}
use Rattle.congruence.proofs.Inwards.{deleted_inward}
use Rattle.congruence.proofs.Fusing.{going_noted}

abbrev pub row_of : Held → List ℕ
row_of h = cells_of h.row

abbrev pub waits_of : Held → Bool
waits_of h = h.waits

-- picture i + 1 of the sheet
pub picture_at : (ps : List Held) (i : ℕ) (d : Held) → i < length ps → picture (sheet ps) (i + 1) ≡ drawn (get_or ps i d)
picture_at ps i d h = ap (picture (sheet ps)) (add-one i) ∙ get_or-map drawn ps i d blank h

-- a picture put back as it was
pub put_back : (ps : List Held) (i : ℕ) (h new : Held) → h ≡ get_or ps i h → new ≡ h → set ps i new ≡ ps
put_back ps i h new is e = ap (set ps i) (e ∙ is) ∙ set-get_or ps i h

-- a picture of which other things are noted
pub sheet_set : (ps : List Held) (i : ℕ) (h new : Held) → h ≡ get_or ps i h → drawn new ≡ drawn h → sheet (set ps i new) ≡ sheet ps
sheet_set ps i h new is e = map-set_same drawn ps i new h (e ∙ ap drawn is)

-- A PICTURE THAT WAITS
module _ (ps : List Held) (rs : List ℕ) (es : List Lead) (i : ℕ) (h : Held)
    (r : Ready rs (sheet ps)) (go : Going (rep rs) ps (held es)) (l : i < length ps) (is : h ≡ get_or ps i h) (late : h.waits ≡ true) where
  on : On (sheet ps) (i + 1)
  on = (omega arith, omega (arith, length-map ps drawn, l))

  waited : waits ps (i + 1) ≡ true
  waited = at_number waits_of false ps i h l ∙ (ap waits_of (sym is) ∙ late)

  pub room_waiting : apart es ≡ true → length es < 1024
  room_waiting a =
      let k = pigeons_but (operation (sheet ps)) (noted ps) (i + 1) (length (sheet ps)) es a on.0 on.1
      (λ q v p e. let b = go.posted.bears q v p e in (b.0.0, b.0.1, b.2, b.3, λ z. both_ways (waits ps (i + 1)) (ap (waits ps) (sym z) ∙ b.1) waited)) in
      omega (arith, k, r.few)

  visit_waiting : (m' : ℕ → List ℕ → Option ℕ) (a : Option ℕ) → Visited (rep rs) (held es) m' h.op (row_of h) (i + 1) a →
      Visited (rep rs) (held es) m' (operation (sheet ps) (i + 1)) (noted ps (i + 1)) (i + 1) a
  visit_waiting m' a v =
      subst (λ (w : List ℕ). Visited (rep rs) (held es) m' (operation (sheet ps) (i + 1)) w (i + 1) a) (sym (at_number row_of [] ps i h l ∙ ap row_of (sym is)))
      (subst (λ (p : Picture). Visited (rep rs) (held es) m' p.operation (row_of h) (i + 1) a) (sym (picture_at ps i h l ∙ ap drawn (sym is))) v)

  pub swept_none : (m' : ℕ → List ℕ → Option ℕ) (new : Held) → drawn new ≡ drawn h → new.row ≡ h.row → new.waits ≡ false → Visited (rep rs) (held es) m' h.op (row_of h) (i + 1) None →
      Going (rep rs) (set ps i new) m'
  swept_none m' new ed er ew v =
      going_noted (rep rs) (sheet ps) (set ps i new) m' (sheet_set ps i h new is ed)
      (λ p o. rows p ∙ go.rows p o)
      (moved-rows (posted_visited (rep rs) (sheet ps) (noted ps) (held es) m' (waits ps) (waits (set ps i new)) (i + 1) go.posted on waited
      (at_set waits_of false ps i new l ∙ ew) (λ y ne. at_other waits_of false ps i y new ne) (visit_waiting m' None v)))
    where
      rows : (p : ℕ) → noted (set ps i new) p ≡ noted ps p
      rows p =
          ⊎_elim
          (λ e. subst (λ (y : ℕ). noted (set ps i new) y ≡ noted ps y) (sym e)
          (at_set row_of [] ps i new l ∙ (ap cells_of er ∙ sym (at_number row_of [] ps i h l ∙ ap row_of (sym is)))))
          (λ ne. at_other row_of [] ps i p new ne)
          (cases_eq p (i + 1))

      moved-rows : Posted (rep rs) (sheet ps) (noted ps) m' (waits (set ps i new)) Every → Posted (rep rs) (sheet ps) (noted (set ps i new)) m' (waits (set ps i new)) Every
      moved-rows x =
          record {
            finds = λ p o e b. let k = x.finds p o e tt in (k.0, ap (m' (operation (sheet ps) p)) (rows p) ∙ k.1);
            bears = λ o w q e. let b = x.bears o w q e in (b.0, b.1, b.2, rows q ∙ b.3);
            meets = λ p q o e k. x.meets p q o e (ap (m' (operation (sheet ps) p)) (sym (rows p)) ∙ k);
          }

  pub swept_idle : (new : Held) → new.waits ≡ false → ((p : ℕ) → 1 ≤ p → p ≤ i → waits ps p ≡ false) → (p : ℕ) → 1 ≤ p → p ≤ i + 1 → waits (set ps i new) p ≡ false
  swept_idle new ew e p a b =
      ⊎_elim
      (λ z. ap (waits (set ps i new)) z ∙ (at_set waits_of false ps i new l ∙ ew))
      (λ ne. at_other waits_of false ps i p new ne ∙ e p a (omega (arith, b, ne)))
      (cases_eq p (i + 1))

  pub swept_some : (m' : ℕ → List ℕ → Option ℕ) (q : ℕ) → Visited (rep rs) (held es) m' h.op (row_of h) (i + 1) (Some q) →
      TwinsApart (rep rs) (sheet ps) (i + 1) q × Going (rep rs) ps m'
  swept_some m' q v = (
    posted_apart (rep rs) (sheet ps) (noted ps) (held es) m' (waits ps) (i + 1) q go.posted go.rows on (visit_waiting m' (Some q) v),
    record { rows = go.rows; posted = posted_index (rep rs) (sheet ps) (noted ps) (held es) m' (waits ps) Every v.2 go.posted },
  )

-- A LOOK AT ONE PICTURE, which may wait
module _ (ps : List Held) (rs : List ℕ) (es : List Lead) (i : ℕ) (h new : Held) (m' : ℕ → List ℕ → Option ℕ)
    (r : Ready rs (sheet ps)) (go : Going (rep rs) ps (held es)) (l : i < length ps) (is : h ≡ get_or ps i h) (as-drawn : drawn new ≡ drawn h) where
  pub looked_none : Looked (rep rs) (held es) m' (i + 1) h new None → ((p : ℕ) → 1 ≤ p → p ≤ i → waits ps p ≡ false) →
      Going (rep rs) (set ps i new) m' × ((p : ℕ) → 1 ≤ p → p ≤ i + 1 → waits (set ps i new) p ≡ false)
  looked_none (inl k) idle =
      subst (λ (qs : List Held). Going (rep rs) qs m' × ((p : ℕ) → 1 ≤ p → p ≤ i + 1 → waits qs p ≡ false)) (sym (put_back ps i h new is k.1)) (
        record { rows = go.rows; posted = posted_index (rep rs) (sheet ps) (noted ps) (held es) m' (waits ps) Every k.2 go.posted },
        λ p a b. ⊎_elim
            (λ e. ap (waits ps) e ∙ (at_number waits_of false ps i h l ∙ (ap waits_of (sym is) ∙ k.0)))
            (λ ne. idle p a (omega (arith, b, ne)))
            (cases_eq p (i + 1)),
      )
  looked_none (inr k) idle = (
    swept_none ps rs es i h r go l is k.0 m' new as-drawn k.1 k.2 k.3,
    swept_idle ps rs es i h r go l is k.0 new k.2 idle,
  )

  pub looked_some : (q : ℕ) → Looked (rep rs) (held es) m' (i + 1) h new (Some q) → TwinsApart (rep rs) (sheet ps) (i + 1) q × Going (rep rs) (set ps i new) m'
  looked_some q k =
      let s = swept_some ps rs es i h r go l is k.0 m' q k.2 in
      (s.0, subst (λ (qs : List Held). Going (rep rs) qs m') (sym (put_back ps i h new is k.1)) s.1)

-- ONE TURN, for picture p, where ps are the pictures ps₀ of which other things are noted
module _ (ps₀ ps : List Held) (rs ts : List ℕ) (es : List Lead) (p : ℕ) (h new : Held) (m' : ℕ → List ℕ → Option ℕ)
    (same : ts ≡ rs) (alike : sheet ps ≡ sheet ps₀) (r : Ready rs (sheet ps₀)) (go : Going (rep rs) ps (held es)) (l : Upto (length ps₀) p) (is : h ≡ get_or ps (p - 1) h) (as-drawn : drawn new ≡ drawn h)
    (once : apart es ≡ true) where
  ready-here : Ready rs (sheet ps)
  ready-here = subst (Ready rs) (sym alike) r

  inside : p - 1 < length ps
  inside = omega (arith, l.0, l.1, ap length alike, length-map ps drawn, length-map ps₀ drawn)

  number : p ≡ p - 1 + 1
  number = omega (arith, l.0)

  looked : (a : Option ℕ) → ((h.waits ≡ true → length es < 1024) → Looked (rep ts) (held es) m' p h new a) → Looked (rep rs) (held es) m' (p - 1 + 1) h new a
  looked a look =
      subst₂ (λ (us : List ℕ) (n : ℕ). Looked (rep us) (held es) m' n h new a) same number (look (λ late. room_waiting ps rs es (p - 1) h ready-here go inside is late once))

  pub turn_none : ((h.waits ≡ true → length es < 1024) → Looked (rep ts) (held es) m' p h new None) → ((q : ℕ) → 1 ≤ q → q < p → waits ps q ≡ false) →
      Going (rep rs) (set ps (p - 1) new) m' × ((q : ℕ) → 1 ≤ q → q ≤ p → waits (set ps (p - 1) new) q ≡ false)
  turn_none look idle =
      let t = looked_none ps rs es (p - 1) h new m' ready-here go inside is as-drawn (looked None look) (λ q a b. idle q a (omega (arith, b, l.0))) in
      (t.0, λ q a b. t.1 q a (omega (arith, b, l.0)))

  pub turn_some : (q : ℕ) → ((h.waits ≡ true → length es < 1024) → Looked (rep ts) (held es) m' p h new (Some q)) → TwinsApart (rep rs) (sheet ps) p q × Going (rep rs) (set ps (p - 1) new) m'
  turn_some q look =
      let t = looked_some ps rs es (p - 1) h new m' ready-here go inside is as-drawn q (looked (Some q) look) in
      (subst (λ (n : ℕ). TwinsApart (rep rs) (sheet ps) n q) (sym number) t.0, t.1)

-- WITHDRAWING
-- the first i pictures are withdrawn
pub record Walked (lost heir i : ℕ) (ps₀ : List Held) (m₀ : ℕ → List ℕ → Option ℕ) (ps : List Held) (m : ℕ → List ℕ → Option ℕ) : Type 0 where
  pub same : sheet ps ≡ sheet ps₀
  pub done : (p : ℕ) → 1 ≤ p → p ≤ i → noted ps p ≡ map (moved lost heir) (noted ps₀ p)
  pub rest : (p : ℕ) → i < p → noted ps p ≡ noted ps₀ p
  pub posted : (f : ℕ → ℕ) → Posted f (sheet ps₀) (noted ps₀) m₀ (waits ps₀) (Free lost) → Posted f (sheet ps₀) (noted ps) m (waits ps) (Free lost)
  pub inward : (n : ℕ) → Inward n m₀ → Inward n m

module _ (lost heir i : ℕ) (ps₀ ps : List Held) (m₀ m m' : ℕ → List ℕ → Option ℕ) (old new : Held)
    (w : Walked lost heir i ps₀ m₀ ps m) (l : i < length ps) (is : old ≡ get_or ps i old) where
  row_here : noted ps (i + 1) ≡ row_of old
  row_here = at_number row_of [] ps i old l ∙ ap row_of (sym is)

  past : uses lost (row_of old) ≡ false → new ≡ old → ((q : ℕ) (v : List ℕ) → m' q v ≡ m q v) → Walked lost heir (i + 1) ps₀ m₀ (set ps i new) m'
  past free e same =
      subst (λ (qs : List Held). Walked lost heir (i + 1) ps₀ m₀ qs m') (sym (put_back ps i old new is e))
      (record {
        same = w.same;
        done = λ p a b. ⊎_elim
            (λ h.
            let z : noted ps (i + 1) ≡ noted ps₀ (i + 1) = w.rest (i + 1) (omega arith) in
            let k : noted ps (i + 1) ≡ map (moved lost heir) (noted ps₀ (i + 1)) =
            z ∙ sym (free_renamed lost heir (noted ps₀ (i + 1)) (ap (uses lost) (sym z ∙ row_here) ∙ free)) in
            subst (λ (y : ℕ). noted ps y ≡ map (moved lost heir) (noted ps₀ y)) (sym h) k)
            (λ ne. w.done p a (omega (arith, b, ne)))
            (cases_eq p (i + 1));
        rest = λ p a. w.rest p (omega (arith, a));
        posted = λ f x. posted_index f (sheet ps₀) (noted ps) m m' (waits ps) (Free lost) same (w.posted f x);
        inward = λ n x q v y k. w.inward n x q v y (sym (same q v) ∙ k);
      })

  on_it : uses lost (row_of old) ≡ true → drawn new ≡ drawn old → row_of new ≡ map (moved lost heir) (row_of old) → new.waits ≡ true →
      ((q : ℕ) (v : List ℕ) → m' q v ≡ leading m old.op (row_of old) None q v) → Walked lost heir (i + 1) ps₀ m₀ (set ps i new) m'
  on_it use-it ed e ew led =
      record {
        same = sheet_set ps i old new is ed ∙ w.same;
        done = λ p a b. ⊎_elim
            (λ h.
            let k : noted (set ps i new) (i + 1) ≡ map (moved lost heir) (noted ps₀ (i + 1)) =
            at_set row_of [] ps i new l ∙ (e ∙ ap (map (moved lost heir)) (sym row_here ∙ w.rest (i + 1) (omega arith))) in
            subst (λ (y : ℕ). noted (set ps i new) y ≡ map (moved lost heir) (noted ps₀ y)) (sym h) k)
            (λ ne. at_other row_of [] ps i p new ne ∙ w.done p a (omega (arith, b, ne)))
            (cases_eq p (i + 1));
        rest = λ p a. at_other row_of [] ps i p new (λ h. omega (arith, a, h)) ∙ w.rest p (omega (arith, a));
        posted = λ f x. posted_shift f (sheet ps₀) (noted ps) (noted (set ps i new)) m m' (waits ps) (waits (set ps i new)) lost (i + 1) (w.posted f x) (ap (uses lost) row_here ∙ use-it)
            (λ q v. led q v
            ∙ (ap (λ (u : List ℕ). leading m old.op u None q v) (sym row_here)
            ∙ ap (λ (p : Picture). leading m p.operation (noted ps (i + 1)) None q v) (sym own)))
            (at_set waits_of false ps i new l ∙ ew) (λ y ne. at_other row_of [] ps i y new ne) (λ y ne. at_other waits_of false ps i y new ne);
        inward = λ n x. deleted_inward n m m' old.op (row_of old) led (w.inward n x);
      }
    where
      own : picture (sheet ps₀) (i + 1) ≡ drawn old
      own = ap (λ (Q : List Picture). picture Q (i + 1)) (sym w.same) ∙ (picture_at ps i old l ∙ ap drawn (sym is))

  pub walked_on : Withdrawn (moved lost heir) lost old new m m' → Walked lost heir (i + 1) ps₀ m₀ (set ps i new) m'
  walked_on (inl h) = past h.0 h.1 h.2
  walked_on (inr h) = on_it h.0 h.1 h.2 h.3 h.4
