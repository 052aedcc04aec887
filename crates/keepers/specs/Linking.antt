-- What becomes of the roots where a link is shortened, a root is linked to another, or a picture is added. Assumes nothing.
use Rattle.std.specs.Prelude.{◌≡◌, ℕ, zero, suc, ◌+◌, ◌<◌, ◌≤◌, ◌≢◌, List, [], ◌∷◌, ◌++◌, map, length, get_or, slice_index_or, slice_set, refl}
use Rattle.std.proofs.Common.{sym, ◌∙◌, ap, subst, ⊎_elim, add-one, arith, length-set}
use Rattle.std.proofs.lemmas.List.{get_or-set_same, get_or-set_other, get_or_append_left, get_or_push, length_push}
use Rattle.std.proofs.lemmas.List.FromFn.{map-range_with_len_more}
use Rattle.std.specs.List.{range_with_len}
use Rattle.std.proofs.lemmas.Bool.{cases_eq}
use Rattle.keepers.specs.declared.link.Link.{Link}
use Rattle.keepers.specs.Meaning.{Upto, moved, class_count}
use Rattle.keepers.specs.Links.{bare, parent, rank, climb, root, roots, Rising, Low, Table, pictures}
use Rattle.keepers.specs.Reps.{moved_hit, moved_miss}
use Rattle.keepers.specs.Drops.{moved_ends}
use Rattle.keepers.specs.ClassCounts.{classes_few, classes_push}
use Rattle.keepers.specs.Roots.{Bounded, climb_stays, map_upto, root_follows, root_only, rep_roots, length-roots, roots_by, roots_same}

pub bounded : (n : ℕ) (ls : List Link) → Low n ls → Bounded n ls
bounded n ls low x w = let h = low x w in omega arith

-- tables with the same links have the same roots
climb_agree : (ls ls' : List Link) → ((x : ℕ) → parent ls' x ≡ parent ls x) → (s x : ℕ) → climb ls' s x ≡ climb ls s x
climb_agree ls ls' e zero x = refl
climb_agree ls ls' e (suc s) x = ap (climb ls' s) (e x) ∙ climb_agree ls ls' e s (parent ls x)

-- the link of x leads to v
abbrev pub led : List Link → ℕ → ℕ → List Link
led ls x v = slice_set ls x (record { parent = v; rank = rank ls x })

module _ (ls : List Link) (x v : ℕ) (l : x < length ls) where
  pub led_here : (y : ℕ) → y ≡ x → parent (led ls x v) y ≡ v
  led_here y e = ap (parent (led ls x v)) e ∙ ap (λ (k : Link). k.parent) (get_or-set_same ls x (record { parent = v; rank = rank ls x }) bare l)

  pub led_other : (y : ℕ) → y ≢ x → parent (led ls x v) y ≡ parent ls y
  led_other y ne = ap (λ (k : Link). k.parent) (get_or-set_other ls x y (record { parent = v; rank = rank ls x }) bare ne)

  pub led_rank : (y : ℕ) → rank (led ls x v) y ≡ rank ls y
  led_rank y =
      ⊎_elim
      (λ e. ap (rank (led ls x v)) e ∙ (ap (λ (k : Link). k.rank) (get_or-set_same ls x (record { parent = v; rank = rank ls x }) bare l) ∙ ap (rank ls) (sym e)))
      (λ ne. ap (λ (k : Link). k.rank) (get_or-set_other ls x y (record { parent = v; rank = rank ls x }) bare ne))
      (cases_eq y x)

  pub led_rising : (n : ℕ) → Rising n ls → Upto n v → rank ls x < rank ls v → Rising n (led ls x v)
  led_rising n rise u h y w =
      ⊎_elim
      (λ e.
      let p = led_here y e in (
        subst (Upto n) (sym p) u,
        λ _. let a = led_rank y ∙ ap (rank ls) e in let b = ap (rank (led ls x v)) p ∙ led_rank v in omega arith,
      ))
      (λ ne.
      let p = led_other y ne in
      let r = rise y w in (
        subst (Upto n) (sym p) r.0,
        λ q. let a = led_rank y in let b = ap (rank (led ls x v)) p ∙ led_rank (parent ls y) in let c = r.1 (λ z. q (p ∙ z)) in omega arith,
      ))
      (cases_eq y x)

  pub led_bounded : (n : ℕ) → Bounded n ls → Bounded n (led ls x v)
  led_bounded n b y w = let h = b y w in let a = led_rank y in omega arith

-- one link of x is skipped
module _ (n : ℕ) (ls : List Link) (t : Table n ls) (x : ℕ) (w : Upto n x) (ne : parent ls x ≢ x) where
  fits : x < length ls
  fits = let r = t.room in omega arith

  pub far_on : Upto n (parent ls (parent ls x))
  far_on = (t.rising (parent ls x) (t.rising x w).0).0

  pub far_above : rank ls x < rank ls (parent ls (parent ls x))
  far_above =
      let r = t.rising x w in
      let a = r.1 ne in
      ⊎_elim
      (λ e. subst (λ (k : ℕ). rank ls x < rank ls k) (sym e) a)
      (λ o. let b = (t.rising (parent ls x) r.0).1 o in omega arith)
      (cases_eq (parent ls (parent ls x)) (parent ls x))

  pub skip_root : (y : ℕ) → Upto n y → root n (led ls x (parent ls (parent ls x))) y ≡ root n ls y
  skip_root =
      let v : ℕ = parent ls (parent ls x) in
      let f = root_follows n ls t.rising (bounded n ls t.low) in
      root_only n (led ls x v) (led_rising ls x v fits n t.rising far_on far_above) (led_bounded ls x v fits n (bounded n ls t.low)) (root n ls)
      (record {
        step = λ y u.
            ⊎_elim
            (λ e. ap (root n ls) e ∙ (f.step x w ∙ (f.step (parent ls x) (t.rising x w).0 ∙ ap (root n ls) (sym (led_here ls x v fits y e)))))
            (λ o. f.step y u ∙ ap (root n ls) (sym (led_other ls x v fits y o)))
            (cases_eq y x);
        stop = λ y u q.
            ⊎_elim
            (λ e. let z : v ≡ x = sym (led_here ls x v fits y e) ∙ (q ∙ e) in let a = far_above in let b = ap (rank ls) z in absurd (omega arith))
            (λ o. f.stop y u (sym (led_other ls x v fits y o) ∙ q))
            (cases_eq y x);
      })

  pub skip_roots : roots n (led ls x (parent ls (parent ls x))) ≡ roots n ls
  skip_roots = roots_same n ls _ skip_root

  pub skip_table : Table n (led ls x (parent ls (parent ls x)))
  skip_table =
      let v : ℕ = parent ls (parent ls x) in
      record {
        room = simp length-set t.room;
        rising = led_rising ls x v fits n t.rising far_on far_above;
        low = λ y u. let h = t.low y u in let a = led_rank ls x v fits y in let b = ap class_count skip_roots in omega arith;
      }

-- THE RANK OF THE ROOT a IS RAISED TO v
abbrev pub raised : List Link → ℕ → ℕ → List Link
raised ls a v = slice_set ls a (record { parent = parent ls a; rank = v })

module _ (ls : List Link) (a v : ℕ) (l : a < length ls) where
  pub raised_parent : (y : ℕ) → parent (raised ls a v) y ≡ parent ls y
  raised_parent y =
      ⊎_elim
      (λ e. ap (parent (raised ls a v)) e ∙ (ap (λ (k : Link). k.parent) (get_or-set_same ls a (record { parent = parent ls a; rank = v }) bare l) ∙ ap (parent ls) (sym e)))
      (λ ne. ap (λ (k : Link). k.parent) (get_or-set_other ls a y (record { parent = parent ls a; rank = v }) bare ne))
      (cases_eq y a)

  pub raised_here : (y : ℕ) → y ≡ a → rank (raised ls a v) y ≡ v
  raised_here y e = ap (rank (raised ls a v)) e ∙ ap (λ (k : Link). k.rank) (get_or-set_same ls a (record { parent = parent ls a; rank = v }) bare l)

  pub raised_other : (y : ℕ) → y ≢ a → rank (raised ls a v) y ≡ rank ls y
  raised_other y ne = ap (λ (k : Link). k.rank) (get_or-set_other ls a y (record { parent = parent ls a; rank = v }) bare ne)

  -- no rank falls
  raised_most : rank ls a ≤ v → (y : ℕ) → rank ls y ≤ rank (raised ls a v) y
  raised_most h y = ⊎_elim (λ e. let r = raised_here y e in let q = ap (rank ls) e in omega arith) (λ ne. let r = raised_other y ne in omega arith) (cases_eq y a)

  pub raised_rising : (n : ℕ) → Rising n ls → parent ls a ≡ a → rank ls a ≤ v → Rising n (raised ls a v)
  raised_rising n rise top h y w =
      let p = raised_parent y in
      let r = rise y w in (
        subst (Upto n) (sym p) r.0,
        λ q.
            let ne : y ≢ a = λ e. q (p ∙ (ap (parent ls) e ∙ (top ∙ sym e))) in
            let o = raised_other y ne in
            let m = raised_most h (parent ls y) in
            let c = r.1 (λ z. q (p ∙ z)) in
            let b = ap (rank (raised ls a v)) p in
            omega arith,
      )

  pub raised_roots : (n : ℕ) → roots n (raised ls a v) ≡ roots n ls
  raised_roots n = roots_same n ls (raised ls a v) (λ x w. climb_agree ls (raised ls a v) raised_parent n x)

-- THE ROOT b IS LINKED TO THE ROOT a, WHICH HAS A HIGHER RANK
module _ (n : ℕ) (ls : List Link) (rise : Rising n ls) (low : Bounded n ls) (a b : ℕ) (l : b < length ls) (wa : Upto n a) (wb : Upto n b)
    (ea : parent ls a ≡ a) (eb : parent ls b ≡ b) (h : rank ls b < rank ls a) where
  apart : a ≢ b
  apart e = let r = ap (rank ls) e in omega arith

  pub link_root : (x : ℕ) → Upto n x → root n (led ls b a) x ≡ moved b a (root n ls x)
  link_root =
      let f = root_follows n ls rise low in
      let at_a : moved b a (root n ls a) ≡ a = ap (moved b a) (f.stop a wa ea) ∙ moved_miss b a a apart in
      let at_b : moved b a (root n ls b) ≡ a = ap (moved b a) (f.stop b wb eb) ∙ moved_hit b a b refl in
      root_only n (led ls b a) (led_rising ls b a l n rise wa h) (led_bounded ls b a l n low) (λ x. moved b a (root n ls x))
      (record {
        step = λ y u.
            ⊎_elim
            (λ e. ap (λ (z : ℕ). moved b a (root n ls z)) e ∙ (at_b ∙ (sym at_a ∙ ap (λ (z : ℕ). moved b a (root n ls z)) (sym (led_here ls b a l y e)))))
            (λ o. ap (moved b a) (f.step y u) ∙ ap (λ (z : ℕ). moved b a (root n ls z)) (sym (led_other ls b a l y o)))
            (cases_eq y b);
        stop = λ y u q.
            ⊎_elim
            (λ e. let z : a ≡ y = sym (led_here ls b a l y e) ∙ q in absurd (apart (z ∙ e)))
            (λ o. ap (moved b a) (f.stop y u (sym (led_other ls b a l y o) ∙ q)) ∙ moved_miss b a y o)
            (cases_eq y b);
      })

  pub link_roots : roots n (led ls b a) ≡ map (moved b a) (roots n ls)
  link_roots = roots_by (moved b a) n ls (led ls b a) link_root

  -- there is one class less
  pub link_fewer : class_count (roots n (led ls b a)) + 1 ≡ class_count (roots n ls)
  link_fewer =
      let f = root_follows n ls rise low in
      let len = length-roots n ls in
      ap (λ (rs : List ℕ). class_count rs + 1) link_roots
      ∙ moved_ends b a (roots n ls) (wb.0, omega arith) (rep_roots n ls b wb ∙ f.stop b wb eb) (rep_roots n ls a wa ∙ f.stop a wa ea) apart

-- TWO ROOTS ARE LINKED, AND THE HEIR'S RANK IS RAISED ABOVE THE OTHER'S WHERE IT HAS TO BE
module _ (n : ℕ) (ls : List Link) (t : Table n ls) (heir lost : ℕ) (wh : Upto n heir) (wl : Upto n lost)
    (eh : parent ls heir ≡ heir) (el : parent ls lost ≡ lost) (ne : heir ≢ lost) where
  some : 0 < class_count (roots n ls)
  some =
      let f = root_follows n ls t.rising (bounded n ls t.low) in
      let len = length-roots n ls in
      let m = moved_ends lost heir (roots n ls) (wl.0, omega arith) (rep_roots n ls lost wl ∙ f.stop lost wl el) (rep_roots n ls heir wh ∙ f.stop heir wh eh) ne in
      omega arith

  -- the next rank is a rank
  pub rank_fits : rank ls lost + 1 ≤ n
  rank_fits = let a = t.low lost wl in let b = some in omega arith

  pub link_plain : rank ls lost < rank ls heir → Table n (led ls lost heir) × (roots n (led ls lost heir) ≡ map (moved lost heir) (roots n ls))
  link_plain h =
      let r = t.room in
      let l : lost < length ls = omega arith in
      let b = bounded n ls t.low in
      let fewer = link_fewer n ls t.rising b heir lost l wh wl eh el h in (
        record {
          room = simp length-set t.room;
          rising = led_rising ls lost heir l n t.rising wh h;
          low = λ y u. let k = led_rank ls lost heir l y in let m = t.low y u in omega arith;
        },
        link_roots n ls t.rising b heir lost l wh wl eh el h,
      )

  pub link_raised : (v : ℕ) → v ≡ rank ls lost + 1 → rank ls heir ≤ v → Table n (led (raised ls heir v) lost heir) × (roots n (led (raised ls heir v) lost heir) ≡ map (moved lost heir) (roots n ls))
  link_raised v e h =
      let ls' = raised ls heir v in
      let r = t.room in
      let lh : heir < length ls = omega arith in
      let l : lost < length ls' = simp length-set (omega arith) in
      let fit = rank_fits in
      let rise = raised_rising ls heir v lh n t.rising eh h in
      let at-lost = raised_other ls heir v lh lost (λ z. ne (sym z)) in
      let at-heir = raised_here ls heir v lh heir refl in
      let b : Bounded n ls' = λ y u. ⊎_elim (λ q. let k = raised_here ls heir v lh y q in omega arith) (λ o. let k = raised_other ls heir v lh y o in let m = t.low y u in omega arith) (cases_eq y heir) in
      let eh' = raised_parent ls heir v lh heir ∙ eh in
      let el' = raised_parent ls heir v lh lost ∙ el in
      let up : rank ls' lost < rank ls' heir = omega arith in
      let same = raised_roots ls heir v lh n in
      let fewer = link_fewer n ls' rise b heir lost l wh wl eh' el' up in
      let cc = ap class_count same in (
        record {
          room = simp (length-set, length-set) t.room;
          rising = led_rising ls' lost heir l n rise wh up;
          low = λ y u.
              let k = led_rank ls' lost heir l y in
              ⊎_elim
              (λ q. let a = raised_here ls heir v lh y q in let m = t.low lost wl in omega arith)
              (λ o. let a = raised_other ls heir v lh y o in let m = t.low y u in omega arith)
              (cases_eq y heir);
        },
        link_roots n ls' rise b heir lost l wh wl eh' el' up ∙ ap (map (moved lost heir)) same,
      )

-- ONE PICTURE MORE, WHICH LEADS TO ITSELF
abbrev pub grown : List Link → ℕ → List Link
grown ls n = ls ++ record { parent = n + 1; rank = 0 } ∷ []

module _ (n : ℕ) (ls : List Link) (t : Table n ls) (l : length ls ≡ n + 1) where
  old : (y : ℕ) → Upto n y → slice_index_or (grown ls n) y bare ≡ slice_index_or ls y bare
  old y w = get_or_append_left ls (record { parent = n + 1; rank = 0 } ∷ []) bare y (omega arith)

  new : get_or (grown ls n) (n + 1) bare ≡ record { parent = n + 1; rank = 0 }
  new = get_or_push ls (record { parent = n + 1; rank = 0 }) bare (n + 1) l

  old_parent : (y : ℕ) → Upto n y → parent (grown ls n) y ≡ parent ls y
  old_parent y w = ap (λ (k : Link). k.parent) (old y w)

  old_rank : (y : ℕ) → Upto n y → rank (grown ls n) y ≡ rank ls y
  old_rank y w = ap (λ (k : Link). k.rank) (old y w)

  new_parent : parent (grown ls n) (n + 1) ≡ n + 1
  new_parent = ap (λ (k : Link). k.parent) new

  new_rank : rank (grown ls n) (n + 1) ≡ 0
  new_rank = ap (λ (k : Link). k.rank) new

  climb_old : (s y : ℕ) → Upto n y → climb (grown ls n) s y ≡ climb ls s y
  climb_old zero y w = refl
  climb_old (suc s) y w = ap (climb (grown ls n) s) (old_parent y w) ∙ climb_old s (parent ls y) (t.rising y w).0

  grown_rising : Rising (n + 1) (grown ls n)
  grown_rising y w =
      ⊎_elim
      (λ e. let p : parent (grown ls n) y ≡ y = ap (parent (grown ls n)) e ∙ (new_parent ∙ sym e) in (subst (Upto (n + 1)) (sym p) w, λ q. absurd (q p)))
      (λ o.
      let u : Upto n y = (w.0, omega arith) in
      let p = old_parent y u in
      let r = t.rising y u in (
        subst (Upto (n + 1)) (sym p) (r.0.0, omega arith),
        λ q. let a = old_rank y u in let b = ap (rank (grown ls n)) p ∙ old_rank (parent ls y) r.0 in let c = r.1 (λ z. q (p ∙ z)) in omega arith,
      ))
      (cases_eq y (n + 1))

  old_root : (y : ℕ) → Upto n y → root (n + 1) (grown ls n) y ≡ root n ls y
  old_root y w =
      climb_old (n + 1) y w
      ∙ (ap (λ (s : ℕ). climb ls s y) (add-one n) ∙ sym ((root_follows n ls t.rising (bounded n ls t.low)).step y w ∙ refl))

  pub grown_roots : roots (n + 1) (grown ls n) ≡ roots n ls ++ (n + 1) ∷ []
  grown_roots =
      let f = root (n + 1) (grown ls n) in
      map-range_with_len_more f 1 n (n + 1) (omega arith)
      ∙ (ap (λ (x : ℕ). map f (range_with_len 1 n) ++ x ∷ []) (climb_stays (grown ls n) (n + 1) (n + 1) new_parent)
      ∙ ap (λ (xs : List ℕ). xs ++ (n + 1) ∷ []) (map_upto f (root n ls) n old_root))

  pub grown_table : Table (n + 1) (grown ls n)
  grown_table =
      let c = classes_push (roots n ls) (roots (n + 1) (grown ls n)) (n + 1) grown_roots in
      let k = classes_few (roots (n + 1) (grown ls n)) in
      let len = length-roots (n + 1) (grown ls n) in
      record {
        room = let m = length_push ls (record { parent = n + 1; rank = 0 }) in omega arith;
        rising = grown_rising;
        low = λ y w.
            ⊎_elim
            (λ e. let r = ap (rank (grown ls n)) e ∙ new_rank in omega arith)
            (λ o. let u : Upto n y = (w.0, omega arith) in let r = old_rank y u in let m = t.low y u in omega arith)
            (cases_eq y (n + 1));
      }

-- the table once p is added, the first number that is no picture
module _ (ls ls' : List Link) (p : ℕ) (t : Table (pictures ls) ls) (e : p ≡ length ls) (is : ls' ≡ ls ++ record { parent = p; rank = 0 } ∷ []) where
  next : p ≡ pictures ls + 1
  next = let r = t.room in omega arith

  adds : ls' ≡ grown ls (pictures ls)
  adds = is ∙ ap (λ (m : ℕ). ls ++ record { parent = m; rank = 0 } ∷ []) next

  count : pictures ls' ≡ pictures ls + 1
  count = let a = ap length is in let m = length_push ls (record { parent = p; rank = 0 }) in let n = next in omega arith

  pub pushed_table : Table (pictures ls') ls'
  pushed_table = rw (count, adds) (grown_table (pictures ls) ls t (sym e ∙ next))

  pub pushed_roots : roots (pictures ls') ls' ≡ roots (pictures ls) ls ++ p ∷ []
  pushed_roots = rw (count, adds, next) (grown_roots (pictures ls) ls t (sym e ∙ next))
