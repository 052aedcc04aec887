-- The index while pictures wait: what withdrawing a picture, a look at one, and a join do. Assumes nothing.
use Rattle.std.proofs.Common.{◌≡◌, ℕ, zero, suc, ◌+◌, ◌<◌, Bool, true, false, ◌||◌, eqb, ◌≢◌, List, [], ◌∷◌, map, length, get_or, set, Some, None, Option, sym, refl, ap, ◌∙◌, subst, ap₂, inl, inr, ⊎_elim, add-one, arith, get_or-set_other, get_or-set_same}
use Rattle.std.specs.List.{AllZip}
use Rattle.std.proofs.lemmas.Bool.{cases_Bool, cases_eq, cond-true, cond-false, both_ways}
use Rattle.std.proofs.lemmas.List.{get_or-map, map-set, length-map}
use Rattle.theory.specs.Sheet.{Picture, On, operation, inputs}
use Rattle.indexes.specs.Meaning.{leading, same_signature}
use Rattle.indexes.specs.Maps.{same_is, is_same}
use Rattle.keepers.specs.Meaning.{moved}
use Rattle.congruence.specs.Working.{Together, Twinned}
use Rattle.congruence.specs.Waiting.{uses, Free, Every, Noted, Posted, TwinsApart, Visited}
use Rattle.congruence.proofs.Options.{none_some, some_some}

-- NUMBERED FROM ONE. What stands at place i of a list has the number i + 1
pub at_number : {X Y : Type 0} (g : X → Y) (z : Y) (xs : List X) (i : ℕ) (d : X) → i < length xs → get_or (z ∷ map g xs) (i + 1) z ≡ g (get_or xs i d)
at_number g z xs i d h = ap (λ (k : ℕ). get_or (z ∷ map g xs) k z) (add-one i) ∙ get_or-map g xs i d z h

pub at_set : {X Y : Type 0} (g : X → Y) (z : Y) (xs : List X) (i : ℕ) (v : X) → i < length xs → get_or (z ∷ map g (set xs i v)) (i + 1) z ≡ g v
at_set g z xs i v h =
    ap (λ (k : ℕ). get_or (z ∷ map g (set xs i v)) k z) (add-one i)
    ∙ (ap (λ ys. get_or ys i z) (map-set g xs i v) ∙ get_or-set_same (map g xs) i (g v) z (omega (arith, h, length-map xs g)))

pub at_other : {X Y : Type 0} (g : X → Y) (z : Y) (xs : List X) (i p : ℕ) (v : X) → p ≢ i + 1 → get_or (z ∷ map g (set xs i v)) p z ≡ get_or (z ∷ map g xs) p z
at_other g z xs i zero v ne = refl
at_other g z xs i (suc j) v ne = ap (λ ys. get_or ys j z) (map-set g xs i v) ∙ get_or-set_other (map g xs) i j (g v) z (λ e. ne (omega (arith, e)))

-- ROWS
or_left : (a b : Bool) → (a || b) ≡ false → a ≡ false
or_left false b h = refl
or_left true b h = h

or_right : (a b : Bool) → (a || b) ≡ false → b ≡ false
or_right false b h = h
or_right true b h = absurd (both_ways true h refl)

pub free_renamed : (lost heir : ℕ) (w : List ℕ) → uses lost w ≡ false → map (moved lost heir) w ≡ w
free_renamed lost heir [] h = refl
free_renamed lost heir (x ∷ xs) h = ap₂ ◌∷◌ (cond-false _ _ _ (or_left (eqb x lost) _ h)) (free_renamed lost heir xs (or_right (eqb x lost) _ h))

pub each_from_map : (f : ℕ → ℕ) (xs ys : List ℕ) → map f xs ≡ map f ys → AllZip (Together f) xs ys
each_from_map f [] [] e = tt
each_from_map f [] (y ∷ ys) e = let z : ◌≡◌ {A = ℕ} 0 1 = cc in absurd (omega arith)
each_from_map f (x ∷ xs) [] e = let z : ◌≡◌ {A = ℕ} 0 1 = cc in absurd (omega arith)
each_from_map f (x ∷ xs) (y ∷ ys) e = (cc, each_from_map f xs ys (cc))

pub map_from_each : (f : ℕ → ℕ) (xs ys : List ℕ) → AllZip (Together f) xs ys → map f xs ≡ map f ys
map_from_each f [] [] e = refl
map_from_each f [] (y ∷ ys) e = absurd e
map_from_each f (x ∷ xs) [] e = absurd e
map_from_each f (x ∷ xs) (y ∷ ys) e = ap₂ ◌∷◌ e.0 (map_from_each f xs ys e.1)

-- ONE PICTURE THAT USES THE LOST REPRESENTATIVE
module _ (f : ℕ → ℕ) (P : List Picture) (ω ω' : ℕ → List ℕ) (m m' : ℕ → List ℕ → Option ℕ) (wait wait' : ℕ → Bool) (lost p : ℕ)
    (x : Posted f P ω m wait (Free lost)) (use-it : uses lost (ω p) ≡ true)
    (led : (o : ℕ) (v : List ℕ) → m' o v ≡ leading m (operation P p) (ω p) None o v) (now-waits : wait' p ≡ true)
    (other-rows : (y : ℕ) → y ≢ p → ω' y ≡ ω y) (other-waits : (y : ℕ) → y ≢ p → wait' y ≡ wait y) where
  gone : (o : ℕ) (w : List ℕ) (q : ℕ) → m' o w ≡ Some q → (same_signature (operation P p) (ω p) o w ≡ false) × (m o w ≡ Some q)
  gone o w q h =
      ⊎_elim
      (λ e. absurd (none_some (m' o w) q (led o w ∙ cond-true _ _ _ e) h))
      (λ e. (e, sym (led o w ∙ cond-false _ _ _ e) ∙ h))
      (cases_Bool (same_signature (operation P p) (ω p) o w))

  differs : (y : ℕ) → wait' y ≡ false → y ≢ p
  differs y h e = both_ways (wait' p) (ap wait' (sym e) ∙ h) now-waits

  pub posted_shift : Posted f P ω' m' wait' (Free lost)
  posted_shift =
      record {
        finds = λ y oy hw fr.
            let ne = differs y hw in
            let fr' : uses lost (ω y) ≡ false = ap (uses lost) (sym (other-rows y ne)) ∙ fr in
            let k = x.finds y oy (sym (other-waits y ne) ∙ hw) fr' in (
              k.0,
              ap (m' (operation P y)) (other-rows y ne) ∙ (led (operation P y) (ω y) ∙ ⊎_elim
                  (λ e. absurd (both_ways (uses lost (ω y)) fr' (ap (uses lost) (sym (same_is (operation P p) (operation P y) (ω p) (ω y) e).1) ∙ use-it)))
                  (λ e. cond-false _ _ _ e ∙ k.1)
                  (cases_Bool (same_signature (operation P p) (ω p) (operation P y) (ω y)))),
            );
        bears = λ o w q h.
            let g = gone o w q h in
            let b = x.bears o w q g.1 in
            let ne : q ≢ p = λ e. both_ways _ g.0 (is_same (operation P p) o (ω p) w (ap (operation P) (sym e) ∙ b.2) (ap ω (sym e) ∙ b.3)) in
            (b.0, other-waits q ne ∙ b.1, b.2, other-rows q ne ∙ b.3);
        meets = λ y q oy hw h.
            let ne = differs y hw in
            x.meets y q oy (sym (other-waits y ne) ∙ hw) (gone (operation P y) (ω y) q (ap (m' (operation P y)) (sym (other-rows y ne)) ∙ h)).1;
      }

-- CLASSES THAT GROW
pub posted_coarser : (f g : ℕ → ℕ) (P : List Picture) (ω : ℕ → List ℕ) (m : ℕ → List ℕ → Option ℕ) (wait : ℕ → Bool) (A B : List ℕ → Type 0) →
    ((x y : ℕ) → On P x → On P y → f x ≡ f y → g x ≡ g y) → ((w : List ℕ) → B w → A w) → Posted f P ω m wait A → Posted g P ω m wait B
posted_coarser f g P ω m wait A B c s x =
    record {
      finds = λ p on h b. x.finds p on h (s (ω p) b);
      bears = x.bears;
      meets = λ p q on h e. c q p (x.bears _ _ q e).0 on (x.meets p q on h e);
    }

pub posted_free : (g : ℕ → ℕ) (P : List Picture) (ω : ℕ → List ℕ) (m : ℕ → List ℕ → Option ℕ) (wait : ℕ → Bool) (lost : ℕ) →
    ((p : ℕ) → On P p → uses lost (ω p) ≡ false) → Posted g P ω m wait (Free lost) → Posted g P ω m wait Every
posted_free g P ω m wait lost c x = record { finds = λ p on h b. x.finds p on h (c p on); bears = x.bears; meets = x.meets }

-- an index with the same map
pub posted_index : (f : ℕ → ℕ) (P : List Picture) (ω : ℕ → List ℕ) (m m' : ℕ → List ℕ → Option ℕ) (wait : ℕ → Bool) (A : List ℕ → Type 0) →
    ((o : ℕ) (v : List ℕ) → m' o v ≡ m o v) → Posted f P ω m wait A → Posted f P ω m' wait A
posted_index f P ω m m' wait A e x =
    record {
      finds = λ p on h b. let k = x.finds p on h b in (k.0, e _ _ ∙ k.1);
      bears = λ o w q h. x.bears o w q (sym (e o w) ∙ h);
      meets = λ p q on h k. x.meets p q on h (sym (e _ _) ∙ k);
    }

-- A LOOK AT A PICTURE THAT WAITS
module _ (f : ℕ → ℕ) (P : List Picture) (ω : ℕ → List ℕ) (m m' : ℕ → List ℕ → Option ℕ) (wait wait' : ℕ → Bool) (p : ℕ)
    (x : Posted f P ω m wait Every) (on : On P p) (waited : wait p ≡ true) (done : wait' p ≡ false)
    (other-waits : (y : ℕ) → y ≢ p → wait' y ≡ wait y) where
  unlike : (q : ℕ) → wait q ≡ false → q ≢ p
  unlike q h e = both_ways (wait p) (ap wait (sym e) ∙ h) waited

  module _ (none : m (operation P p) (ω p) ≡ None) (led : (q : ℕ) (v : List ℕ) → m' q v ≡ leading m (operation P p) (ω p) (Some p) q v) where
    hit : (o : ℕ) (w : List ℕ) → same_signature (operation P p) (ω p) o w ≡ true → m' o w ≡ Some p
    hit o w e = led o w ∙ cond-true _ _ _ e

    miss : (o : ℕ) (w : List ℕ) → same_signature (operation P p) (ω p) o w ≡ false → m' o w ≡ m o w
    miss o w e = led o w ∙ cond-false _ _ _ e

    not_own : (y : ℕ) → same_signature (operation P p) (ω p) (operation P y) (ω y) ≡ false → y ≢ p
    not_own y e h = both_ways _ e (is_same (operation P p) (operation P y) (ω p) (ω y) (ap (operation P) (sym h)) (ap ω (sym h)))

    posted-new : Posted f P ω m' wait' Every
    posted-new =
        record {
          finds = λ y oy hw _. ⊎_elim
              (λ e. (p, hit _ _ e))
              (λ e. let k = x.finds y oy (sym (other-waits y (not_own y e)) ∙ hw) tt in (k.0, miss _ _ e ∙ k.1))
              (cases_Bool (same_signature (operation P p) (ω p) (operation P y) (ω y)));
          bears = λ o w q h. ⊎_elim
              (λ e.
              let s = same_is (operation P p) o (ω p) w e in
              let k : p ≡ q = some_some (m' o w) p q (hit o w e) h in
              (subst (On P) k on, ap wait' (sym k) ∙ done, ap (operation P) (sym k) ∙ s.0, ap ω (sym k) ∙ s.1))
              (λ e. let b = x.bears o w q (sym (miss o w e) ∙ h) in (b.0, other-waits q (unlike q b.1) ∙ b.1, b.2, b.3))
              (cases_Bool (same_signature (operation P p) (ω p) o w));
          meets = λ y q oy hw h. ⊎_elim
              (λ e.
              let s = same_is (operation P p) (operation P y) (ω p) (ω y) e in
              let k : p ≡ q = some_some (m' (operation P y) (ω y)) p q (hit _ _ e) h in
              ⊎_elim
              (λ z. ap f (sym k ∙ sym z))
              (λ z.
              let t = x.finds y oy (sym (other-waits y z) ∙ hw) tt in
              absurd (none_some (m (operation P y) (ω y)) t.0 (ap₂ m (sym s.0) (sym s.1) ∙ none) t.1))
              (cases_eq y p))
              (λ e. x.meets y q oy (sym (other-waits y (not_own y e)) ∙ hw) (sym (miss _ _ e) ∙ h))
              (cases_Bool (same_signature (operation P p) (ω p) (operation P y) (ω y)));
        }

  module _ (r : ℕ) (some : m (operation P p) (ω p) ≡ Some r) (meet : f r ≡ f p) (as_it_was : (o : ℕ) (v : List ℕ) → m' o v ≡ m o v) where
    posted-held : Posted f P ω m' wait' Every
    posted-held =
        record {
          finds = λ y oy hw _. ⊎_elim
              (λ e. subst (λ (z : ℕ). (q : ℕ) × (m' (operation P z) (ω z) ≡ Some q)) (sym e) (r, as_it_was _ _ ∙ some))
              (λ ne. let k = x.finds y oy (sym (other-waits y ne) ∙ hw) tt in (k.0, as_it_was _ _ ∙ k.1))
              (cases_eq y p);
          bears = λ o w q h. let b = x.bears o w q (sym (as_it_was o w) ∙ h) in (b.0, other-waits q (unlike q b.1) ∙ b.1, b.2, b.3);
          meets = λ y q oy hw h. ⊎_elim
              (λ e. ap f (some_some (m' (operation P y) (ω y)) q r h (ap (λ (z : ℕ). m' (operation P z) (ω z)) e ∙ (as_it_was _ _ ∙ some))) ∙ (meet ∙ ap f (sym e)))
              (λ ne. x.meets y q oy (sym (other-waits y ne) ∙ hw) (sym (as_it_was _ _) ∙ h))
              (cases_eq y p);
        }

  pub posted_visited : Visited f m m' (operation P p) (ω p) p None → Posted f P ω m' wait' Every
  posted_visited (inl h) = posted-new h.0 h.1
  posted_visited (inr h) = posted-held h.0.0 h.0.1 h.0.2 h.1

pub posted_apart : (f : ℕ → ℕ) (P : List Picture) (ω : ℕ → List ℕ) (m m' : ℕ → List ℕ → Option ℕ) (wait : ℕ → Bool) (p q : ℕ) → Posted f P ω m wait Every → Noted f P ω → On P p →
    Visited f m m' (operation P p) (ω p) p (Some q) → TwinsApart f P p q
posted_apart f P ω m m' wait p q x nt on h =
    let b = x.bears _ _ q h.0 in
    record {
      left_on = on;
      right_on = b.0;
      twins = (sym b.2, each_from_map f (inputs P p) (inputs P q) (sym (nt p on) ∙ (sym b.3 ∙ nt q b.0)));
      apart = λ e. h.1 (sym e);
    }

-- AT REST
-- where none waits, twins are together
pub posted_twinned : (f : ℕ → ℕ) (P : List Picture) (ω : ℕ → List ℕ) (m : ℕ → List ℕ → Option ℕ) (wait : ℕ → Bool) → Posted f P ω m wait Every → Noted f P ω →
    ((p : ℕ) → On P p → wait p ≡ false) → Twinned P f
posted_twinned f P ω m wait x nt idle a b oa ob t =
    let k = x.finds a oa (idle a oa) tt in
    let same : ω a ≡ ω b = nt a oa ∙ (map_from_each f (inputs P a) (inputs P b) t.1 ∙ sym (nt b ob)) in
    sym (x.meets a k.0 oa (idle a oa) k.1) ∙ x.meets b k.0 ob (idle b ob) (ap₂ m (sym t.0) (sym same) ∙ k.1)
