-- What stands between two joins is enough to put twins together. Assumes nothing.
use Rattle.std.proofs.Common.{◌≡◌, ℕ, ◌+◌, ◌<◌, ◌≤◌, true, ◌≢◌, List, [], ◌∷◌, ◌++◌, length, vec_items, vec_capacity, All, Option, sym, ap, ◌∙◌, subst, subst₂, arith}
use Rattle.std.proofs.lemmas.List.Elements.{All-weaker, All-nil, All-push, All-cons, All-head, All-tail}
use Rattle.std.proofs.lemmas.List.{length-map, length_push}
use Rattle.theory.specs.Sheet.{Picture, On, Ordered}
use Rattle.keepers.specs.Meaning.{rep, Upto, Settled, Unites}
use Rattle.keepers.specs.declared.keeper.Keeper.{Ghosts as Kept}
use Rattle.indexes.specs.declared.index.Index.{Ghosts as Found}
use Rattle.indexes.specs.Meaning.{Lead, held}
use Rattle.rows.specs.Row.{cells_of}
use Rattle.congruence.specs.declared.picture.Picture.{Picture as Held}
use Rattle.congruence.specs.declared.journal.Join.{Join}
use Rattle.congruence.specs.declared.congruence.Congruence.{Congruence}
use Rattle.congruence.specs.Drawn.{drawn, sheet}
use Rattle.congruence.specs.Working.{Ready, Books, Fed, Counted, Holding, Inward, Apart, Booked, Progress}
use Rattle.congruence.specs.Waiting.{Going, Working, noted, row, waits}
use Rattle.congruence.specs.Whole.{Works, Holds}
use Rattle.congruence.proofs.Journals.{inputs_on}
use Rattle.congruence.proofs.Sweeps.{picture_at}
use Rattle.congruence.proofs.Replays.{going_anew}
use Rattle.congruence.proofs.Tallies.{books_booked, joined_progress, progress_booked}

-- the inputs of the pictures are those of the sheet
pub fed_sheet : (n : ℕ) (ps : List Held) → All (Fed n) ps → All (λ (x : Picture). All (Upto n) x.inputs) (sheet ps)
fed_sheet n [] a = All-nil (λ (x : Picture). All (Upto n) x.inputs)
fed_sheet n (h ∷ ps) a = All-cons (λ (x : Picture). All (Upto n) x.inputs) (drawn h) (sheet ps) (All-head (Fed n) h ps a) (fed_sheet n ps (All-tail (Fed n) h ps a))

pub sheet_fed : (n : ℕ) (ps : List Held) → All (λ (x : Picture). All (Upto n) x.inputs) (sheet ps) → All (Fed n) ps
sheet_fed n [] a = All-nil (Fed n)
sheet_fed n (h ∷ ps) a =
    All-cons (Fed n) h ps (All-head (λ (x : Picture). All (Upto n) x.inputs) (drawn h) (sheet ps) a) (sheet_fed n ps (All-tail (λ (x : Picture). All (Upto n) x.inputs) (drawn h) (sheet ps) a))

pub sheet_length : (ps ps' : List Held) → sheet ps' ≡ sheet ps → length ps' ≡ length ps
sheet_length ps ps' e = sym (length-map ps' drawn) ∙ (ap length e ∙ length-map ps drawn)

-- the same pictures, of which other things are noted
pub counted_again : (rs rs' : List ℕ) (ps ps' : List Held) → Counted rs ps → length rs' ≡ length rs → sheet ps' ≡ sheet ps → Counted rs' ps'
counted_again rs rs' ps ps' c l e =
    let n = sheet_length ps ps' e in
    record {
      counted = omega (arith, c.counted, l, n);
      few = omega (arith, c.few, n);
      fed = subst (λ (k : ℕ). All (Fed k) ps') (sym n) (sheet_fed (length ps) ps' (subst (All (λ (x : Picture). All (Upto (length ps)) x.inputs)) (sym e) (fed_sheet (length ps) ps c.fed)));
    }

pub working_again : (rs rs' : List ℕ) (ps ps' : List Held) (m m' : ℕ → List ℕ → Option ℕ) (J J' : List Join) → Working rs ps m J → rs' ≡ rs → sheet ps' ≡ sheet ps → J' ≡ J → Going (rep rs) ps' m' → Working rs' ps' m' J'
working_again rs rs' ps ps' m m' J J' w er ep ej go =
    subst (λ (ts : List ℕ). Working ts ps' m' J') (sym er)
    (subst (λ (K : List Join). Working rs ps' m' K) (sym ej)
    (record {
      ready = subst (Ready rs) (sym ep) w.ready;
      books = subst (λ (P : List Picture). Books rs P J) (sym ep) w.books;
      going = go;
    }))

pub ready_counted : (rs : List ℕ) (ps : List Held) → Ready rs (sheet ps) → Counted rs ps
ready_counted rs ps r =
    let n = length-map ps drawn in
    record {
      counted = omega (arith, r.counted, n);
      few = omega (arith, r.few, n);
      fed = λ k d l. subst (λ (x : Picture). All (Upto (length ps)) x.inputs) (picture_at ps k d l)
          (All-weaker (On (sheet ps)) (Upto (length ps)) (λ i o. (o.0, omega (arith, o.1, n))) _ (inputs_on (sheet ps) r.ordered (k + 1) (omega arith, omega (arith, n, l))));
    }

-- of parts that are only lent, and of a `Congruence` that owns them
pub working_holding : (rs : List ℕ) (ps : List Held) (m : ℕ → List ℕ → Option ℕ) (J : List Join) → Settled rs → Working rs ps m J → Holding rs ps m J
working_holding rs ps m J s w =
    let n = length-map ps drawn in
    record {
      counted = ready_counted rs ps w.ready;
      inward = λ o v q h. let b = w.going.posted.bears o v q h in (b.0.0, omega (arith, b.0.1, n));
      booked = books_booked rs (sheet ps) J s w.ready.counted w.books;
    }

pub works_holds : {X Y : Type 0} (kept : Kept X) (found : Found Y) (c : Congruence X Y) → Settled (kept.reps c.keeper) → 1024 ≤ vec_capacity c.journal → Works kept found c → Holds kept found c
works_holds kept found c s r w = record { holding = working_holding (kept.reps c.keeper) (vec_items c.pictures) (held (found.leads c.index)) (vec_items c.journal) s w; room = r }

-- one picture more
pub grown_counted : (rs rs' : List ℕ) (ps : List Held) (h : Held) (x : ℕ) → Counted rs ps → length ps < 1024 → rs' ≡ rs ++ x ∷ [] → Fed (length ps) h → Counted rs' (ps ++ h ∷ [])
grown_counted rs rs' ps h x c l e f =
    let n = length_push ps h in
    let k = ap length e ∙ length_push rs x in
    record {
      counted = omega (arith, c.counted, n, k);
      few = omega (arith, l, n);
      fed = subst (λ (j : ℕ). All (Fed j) (ps ++ h ∷ [])) (sym n)
          (All-push (Fed (length ps + 1)) ps h (All-weaker (Fed (length ps)) (Fed (length ps + 1)) more ps c.fed) (more h f));
    }
  where
    more : (p : Held) → Fed (length ps) p → Fed (length ps + 1) p
    more p a = All-weaker (Upto (length ps)) (Upto (length ps + 1)) (λ m u. (u.0, omega (arith, u.1))) (cells_of p.inputs) a

pub grown_inward : (n n' : ℕ) (m : ℕ → List ℕ → Option ℕ) → n ≤ n' → Inward n m → Inward n' m
grown_inward n n' m le h o w q e = let u = h o w q e in (u.0, omega (arith, u.1, le))

-- after a join
pub joined_on : (rs ts rs' : List ℕ) (ps ps' : List Held) (J J' : List Join) (j : Join) → Settled rs → Counted rs ps → Booked rs (length J) → Apart rs j → ts ≡ rs → Unites j.left j.right ts rs' →
    sheet ps' ≡ sheet ps → J' ≡ J ++ j ∷ [] → Counted rs' ps' × Booked rs' (length J') × Progress rs rs' (length J) (length J')
joined_on rs ts rs' ps ps' J J' j s c b a et u ep ej =
    let n : length J' ≡ length J + 1 = ap length ej ∙ length_push J j in
    let p = subst (Progress rs rs' (length J)) (sym n) (joined_progress j (length J) rs rs' s a (subst (λ (us : List ℕ). Unites j.left j.right us rs') et u)) in
    (counted_again rs rs' ps ps' c p.counted ep, progress_booked rs rs' (length J) (length J') p b, p)

-- two pictures of which the keeper answers that they are apart
pub pair_apart : (rs : List ℕ) (ps : List Held) (j : Join) → Counted rs ps → Upto (length ps) j.left → Upto (length ps) j.right → rep rs j.left ≢ rep rs j.right → Apart rs j
pair_apart rs ps j c l r a = record { left_on = (l.0, omega (arith, l.1, c.counted)); right_on = (r.0, omega (arith, r.1, c.counted)); apart = a }

pub on_sheet : (ps ps' : List Held) → sheet ps' ≡ sheet ps → (x : ℕ) → Upto (length ps) x → On (sheet ps') x
on_sheet ps ps' e x u = (u.0, omega (arith, u.1, ap length e, length-map ps drawn))

-- joins made again, rows noted anew, and an empty index
module _ (rs us : List ℕ) (ps qs ws xs : List Held) (I J : List Join) (es : List Lead) (c : Counted rs ps) (b : Books rs (sheet ps) I) (is : qs ≡ ps) (ej : J ≡ I) (back : xs ≡ ws) (same : us ≡ rs)
    (noted-alike : sheet ws ≡ sheet qs) (none : es ≡ []) where
  alike : sheet xs ≡ sheet ps
  alike = ap sheet back ∙ (noted-alike ∙ ap sheet is)

  pub restored_counted : Counted us xs
  restored_counted = counted_again rs us ps xs c (ap length same) alike

  pub restored_booked : Settled rs → Booked us (length J)
  restored_booked s =
      subst₂ (λ (ts : List ℕ) (K : List Join). Booked ts (length K)) (sym same) (sym ej) (books_booked rs (sheet ps) I s (c.counted ∙ sym (length-map ps drawn)) b)

  pub restored_working : Ordered (sheet ps) → ((p : ℕ) → On (sheet qs) p → noted ws p ≡ row (rep rs) (sheet qs) p) → ((p : ℕ) → On (sheet qs) p → waits ws p ≡ true) → Working us xs (held es) J
  restored_working o rows late =
      subst₂ (λ (ts : List ℕ) (K : List Join). Working ts xs (held es) K) (sym same) (sym ej)
      (subst (λ (zs : List Held). Working rs zs (held es) I) (sym back)
      (record {
        ready = subst (Ready rs) (sym at) (record { counted = c.counted ∙ sym n; few = omega (arith, c.few, n); ordered = o });
        books = subst (λ (P : List Picture). Books rs P I) (sym at) b;
        going = going_anew (rep rs) qs ws es noted-alike rows late none;
      }))
    where
      n : length (sheet ps) ≡ length ps
      n = length-map ps drawn

      at : sheet ws ≡ sheet ps
      at = noted-alike ∙ ap sheet is
