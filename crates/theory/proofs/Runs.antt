-- The law over runs. Assumes nothing.
use Rattle.std.proofs.Common.{◌≡◌, ℕ, ◌+◌, ◌-◌, ◌<◌, ◌≤◌, Bool, true, false, cond, ◌⊎◌, List, [], ◌∷◌, ◌++◌, length, get_or, All, sym, refl, ap, ◌∙◌, subst, inl, inr, ⊎_elim, arith, length-append}
use Rattle.std.specs.List.{AllZip}
use Rattle.std.proofs.lemmas.List.Elements.{All-weaker, All-push, All-nil}
use Rattle.std.proofs.lemmas.Bool.{true≢false}
use Rattle.theory.specs.Sheet.{Picture, Entry, same, differ, Reading, On, Placed, Proper, value, Satisfies, Breaks, Broken, Lowest, Applies, Locked}
use Rattle.theory.specs.Calls.{Call, add, tell, must, why, lock, reopen, apply, Refusal, full, Answer, added, told, valued, refused, Content, empty, with_picture, with_entry, is_refused, refusal_steps, steps, Shown, Unless, Impossible, Taken, Answers, Alike, after}
use Rattle.theory.specs.Calls as calls
use Rattle.theory.specs.Runs.{Goes, leaves, Within, FewSteps, Refuted, NextEntry, MustSays, ReadOff, RunLaw, SameCallsLaw, CapacityLaw}
use Rattle.theory.proofs.Settled.{known_all}
use Rattle.theory.proofs.Laws.{dec_on, find, broken_none, dec_joined, locked, locked_locked, locked-satisfies, must_law, locked_law}
use Rattle.theory.proofs.Few.{few_law}
use Rattle.theory.proofs.Answering.{alike_law}
use Rattle.theory.proofs.Growing.{placed_more, ordered_more, holds_more}
use Rattle.theory.proofs.Each.{uncons}

-- what every run keeps
abbrev Sound : ℕ → Content → Type 0
Sound cap s = Proper s.pictures s.entries × ((r : Reading) × Satisfies r s.pictures s.entries) × Within cap s

some_reading : (P : List Picture) (E : List Entry) → Proper P E → ¬ ((r : Reading) → ¬ Satisfies r P E) → (r : Reading) × Satisfies r P E
some_reading P E w h = go (find (Breaks P E) E (dec_joined P E (known_all P E w) E w.1))
  where
    go : ((k : ℕ) × Broken P E k) ⊎ ((k : ℕ) → ¬ Broken P E k) → (r : Reading) × Satisfies r P E
    go (inl kb) = absurd (h (broken_none P E w.0 kb.0 kb.1))
    go (inr n) = (locked P E (known_all P E w), locked-satisfies P E w _ (locked_locked P E (known_all P E w)) n)

-- an answer is a refusal, or every check was passed
not_refused : (bad : Type 0) (f : Refusal) (r : Answer) (next : Type 0) → Unless bad f r next → (is_refused r ≡ true) ⊎ ((¬ bad) × next)
not_refused bad f r next (inl h) = inl (ap is_refused h.1)
not_refused bad f r next (inr h) = inr h

-- a check that is passed
passed : (bad : Type 0) (f : Refusal) (r : Answer) (next : Type 0) → ¬ bad → Unless bad f r next → next
passed bad f r next n (inl h) = absurd (n h.0)
passed bad f r next n (inr h) = h.1

-- nothing is appended, or the fact holds
kept_or : (cap : ℕ) (b : Bool) (s t : Content) → (b ≡ true) → Sound cap s → Sound cap (cond b s t)
kept_or cap b s t e g = subst (λ x. Sound cap (cond x s t)) (sym e) g

stable_on : (P : List Picture) (p : ℕ) → ¬ ¬ On P p → On P p
stable_on P p n = go (dec_on P p)
  where
    go : Dec (On P p) → On P p
    go (yes a) = a
    go (no b) = absurd (n b)

all_on : (P : List Picture) (ps : List ℕ) → ¬ ¬ All (On P) ps → All (On P) ps
all_on P ps n k d lt = stable_on P (get_or ps k d) (λ m. n (λ a. m (a k d lt)))

stable_placed : (P : List Picture) (e : Entry) → ¬ ¬ Placed P e → Placed P e
stable_placed P (same a b) n = (stable_on P a (λ k. n (λ w. k w.0)), stable_on P b (λ k. n (λ w. k w.1)))
stable_placed P (differ a b) n = (stable_on P a (λ k. n (λ w. k w.0)), stable_on P b (λ k. n (λ w. k w.1)))

picture_sound : (cap : ℕ) (s : Content) (o : ℕ) (is : List ℕ) (r : Answer) → Sound cap s → Answers cap s (add o is) r → Sound cap (cond (is_refused r) s (with_picture s o is))
picture_sound cap s o is r g h =
    ⊎_elim (λ e. kept_or cap (is_refused r) s (with_picture s o is) e g) (λ a.
    ⊎_elim (λ e. kept_or cap (is_refused r) s (with_picture s o is) e g) (λ b.
    ⊎_elim (λ e. kept_or cap (is_refused r) s (with_picture s o is) e g) (λ c. grown a.0 b.0 c.0) (not_refused _ _ r _ b.1))
    (not_refused _ _ r _ a.1)) (not_refused _ _ r _ h)
  where
    x : Picture
    x = record { operation = o; inputs = is }

    grown : ¬ (4 < length is) → ¬ ¬ All (On s.pictures) is → ¬ ((1024 ≤ length s.pictures) ⊎ (cap ≤ length s.pictures)) → Sound cap (cond (is_refused r) s (with_picture s o is))
    grown few on room = by (is_refused r)
      where
        longer : (n : ℕ) → ¬ (n ≤ length s.pictures) → length (s.pictures ++ (x ∷ [])) ≤ n
        longer n h = omega (arith, h, length-append s.pictures (x ∷ []))

        by : (b : Bool) → Sound cap (cond b s (with_picture s o is))
        by true = g
        by false = (
          (ordered_more s.pictures x g.0.0 (omega (arith, few)) (all_on s.pictures is on), All-weaker _ _ (placed_more s.pictures x) s.entries g.0.1),
          (g.1.0, holds_more s.pictures x g.0.0 g.1.0 s.entries g.0.1 g.1.1),
          (longer 1024 (λ l. room (inl l)), longer cap (λ l. room (inr l)), g.2.2),
        )

entry_sound : (cap : ℕ) (s : Content) (e : Entry) (cells : ℕ) (r : Answer) → Sound cap s → Answers cap s (tell e cells) r → Sound cap (cond (is_refused r) s (with_entry s e))
entry_sound cap s e cells r g h =
    ⊎_elim (λ q. kept_or cap (is_refused r) s (with_entry s e) q g) (λ a.
    ⊎_elim (λ q. kept_or cap (is_refused r) s (with_entry s e) q g) (λ b.
    ⊎_elim (λ q. kept_or cap (is_refused r) s (with_entry s e) q g) (λ c.
    ⊎_elim (λ i. kept_or cap (is_refused r) s (with_entry s e) (ap is_refused i.1.7) g) (λ t. grown b.0 t.0 c.0) c.1)
    (not_refused _ _ r _ b.1)) (not_refused _ _ r _ a.1)) (not_refused _ _ r _ h)
  where
    grown : ¬ ¬ Placed s.pictures e → ¬ Impossible s e → ¬ (2048 ≤ length s.entries) → Sound cap (cond (is_refused r) s (with_entry s e))
    grown on can room = by (is_refused r)
      where
        by : (b : Bool) → Sound cap (cond b s (with_entry s e))
        by true = g
        by false =
            let w : Proper s.pictures (s.entries ++ (e ∷ [])) = (g.0.0, All-push (Placed s.pictures) s.entries e g.0.1 (stable_placed s.pictures e on)) in
            (w, some_reading s.pictures (s.entries ++ (e ∷ [])) w can, (g.2.0, g.2.1, omega (arith, room, length-append s.entries (e ∷ []))))

step_sound : (cap : ℕ) (c : Call) (r : Answer) (s : Content) → Sound cap s → Answers cap s c r → Sound cap (after s c r)
step_sound cap (add o is) r s g h = picture_sound cap s o is r g h
step_sound cap (tell d cells) r s g h = entry_sound cap s d cells r g h
step_sound cap (must a b) r s g h = g
step_sound cap (why a b n) r s g h = g
step_sound cap (calls.value p) r s g h = g
step_sound cap (apply o xs) r s g h = g
step_sound cap lock r s g h = g
step_sound cap reopen r s g h = g

run_sound : (cap : ℕ) (log : List (Call × Answer)) (s : Content) → Sound cap s → Goes cap s log → Sound cap (leaves s log)
run_sound cap [] s g h = g
run_sound cap (c ∷ cs) s g h = run_sound cap cs (after s c.0 c.1) (step_sound cap c.0 c.1 s g h.1) h.2

empty_sound : (cap : ℕ) → Sound cap empty
empty_sound cap = (((λ p on. absurd (none p on)), All-nil _), ((λ o xs. 0), All-nil _), (omega arith, omega arith, omega arith))
  where
    none : (p : ℕ) → On [] p → ⊥
    none p on = omega (arith, on.0, on.1)

-- an entry that is taken is not refused
taken_goes_on : (P : List Picture) (E : List Entry) (e : Entry) (r : Answer) → Taken P E e r → is_refused r ≡ false
taken_goes_on P E (same a b) r t = ap is_refused t.4
taken_goes_on P E (differ a b) r t = ap is_refused t

taken_no_refusal : (P : List Picture) (E : List Entry) (e : Entry) (r : Answer) → Taken P E e r → ¬ Refuted r
taken_no_refusal P E e r t f = true≢false (sym (ap is_refused f.2) ∙ taken_goes_on P E e r t)

-- a chain is short
no_steps : (bad : Type 0) (f : Refusal) (r : Answer) (next : Type 0) (n : ℕ) → refusal_steps f ≡ 0 → (¬ bad → next → steps r ≤ n) → Unless bad f r next → steps r ≤ n
no_steps bad f r next n z k (inl h) = subst (λ x. x ≤ n) (sym (ap steps h.1 ∙ z)) (omega arith)
no_steps bad f r next n z k (inr h) = k h.0 h.1

few_steps : (cap : ℕ) (s : Content) → Proper s.pictures s.entries → (c : Call) (r : Answer) → Answers cap s c r → steps r ≤ length s.pictures - 1
few_steps cap s w c r h = go c h
  where
    P : List Picture
    P = s.pictures

    E : List Entry
    E = s.entries

    none : steps r ≡ 0 → steps r ≤ length P - 1
    none e = subst (λ x. x ≤ length P - 1) (sym e) (omega arith)

    short : (F : List Entry) → Proper P F → (a b n : ℕ) → steps r ≡ n → Shown P F a b n → steps r ≤ length P - 1
    short F v a b n e h = subst (λ x. x ≤ length P - 1) (sym (e ∙ h.2)) (few_law P F v h.0 h.1.0)

    taken : (e : Entry) → Taken P E e r → steps r ≤ length P - 1
    taken (same a b) t = none (ap steps t.4)
    taken (differ a b) t = none (ap steps t)

    go : (c : Call) → Answers cap s c r → steps r ≤ length P - 1
    go (add o is) h = no_steps _ _ r _ _ refl (λ _. no_steps _ _ r _ _ refl (λ _. no_steps _ _ r _ _ refl (λ _ m. none (ap steps m.2)))) h
    go (tell e cells) h =
        no_steps _ _ r _ _ refl (λ _. no_steps _ _ r _ _ refl (λ on. no_steps _ _ r _ _ refl (λ _. ⊎_elim
        (λ i. let k = i.1 in short (E ++ (e ∷ [])) (w.0, All-push (Placed P) E e w.1 (stable_placed P e on)) k.2 k.3 k.1 (ap steps k.7) k.6)
        (λ t. taken e t.1)))) h
    go (must a b) h = no_steps _ _ r _ _ refl (λ _. ⊎_elim (λ t. none (ap steps t.1)) (λ t. none (ap steps t.1))) h
    go (why a b n) h =
        no_steps _ _ r _ _ refl (λ _. no_steps _ _ r _ _ refl (λ _. no_steps _ _ r _ _ refl (λ _ t. short E w a b t.0 (ap steps t.2) t.1))) h
    go (calls.value p) h = no_steps _ _ r _ _ refl (λ _ t. none (ap steps t.2)) h
    go (apply o xs) h = no_steps _ _ r _ _ refl (λ _ t. none (ap steps t.2)) h
    go lock h = none (ap steps h)
    go reopen h = none (ap steps h)

yes_is_yes : (b : Bool) → told true ≡ told b → true ≡ b
yes_is_yes b e = cc

pub run_law : RunLaw
run_law cap log h = (g.0, g.2, g.1, next, says, ((reading, reads), shows), few)
  where
    s : Content
    s = leaves empty log

    P : List Picture
    P = s.pictures

    E : List Entry
    E = s.entries

    g : Sound cap s
    g = run_sound cap log empty (empty_sound cap) h

    reading : Reading
    reading = locked P E (known_all P E g.0)

    reads : ReadOff cap s reading
    reads o xs few = inr ((λ l. omega arith), (reading o xs, locked_locked P E (known_all P E g.0) o xs few, refl))

    few : FewSteps cap s
    few c r a = few_steps cap s g.0 c r a

    next : NextEntry cap s
    next e cells enough on room r a =
        let b = passed _ _ r _ (λ l. omega arith) a in
        let c = passed _ _ r _ (λ n. n on) b in
        let d = passed _ _ r _ (λ l. omega arith) c in (
          ((λ f. ⊎_elim (λ i. i.0) (λ t. absurd (taken_no_refusal P E e r t.1 f)) d), (λ i. ⊎_elim (λ x. (x.1.0, x.1.1, x.1.7)) (λ t. absurd (t.0 i)) d)),
          (λ n. ⊎_elim (λ x. absurd (n x.0)) (λ t. ap (λ b. cond b s (with_entry s e)) (taken_goes_on P E e r t.1)) d),
        )

    says : MustSays cap s
    says a b oa ob r h =
        let z = passed _ _ r _ (λ n. n (oa, ob)) h in
        let m = must_law P E g.0 g.1 a b oa ob in (
          (λ e. ⊎_elim (λ c. m.0 c.0) (λ c. absurd (true≢false (yes_is_yes false (sym e ∙ c.1)))) z),
          (λ q. ⊎_elim (λ c. c.1) (λ c. absurd (c.0 (m.1 q))) z),
        )

    shows : (q : Reading) → ReadOff cap s q →
        ((p : ℕ) → On P p → Answers cap s (calls.value p) (valued (value q P p)))
        × Satisfies q P E
        × ((a b : ℕ) → On P a → On P b → value q P a ≡ value q P b → (t : Reading) → Satisfies t P E → value t P a ≡ value t P b)
    shows q off =
        let l : Locked P E q = λ o xs few.
        let z = passed _ _ (valued (q o xs)) _ (λ n. omega arith) (off o xs few) in
        let e : q o xs ≡ z.0 = same-value (q o xs) z.0 z.2 in
        subst (Applies P E o xs) (sym e) z.1 in
        let k = (locked_law P E g.0 g.1).1 q l in
        ((λ p on. inr ((λ n. n on), (value q P p, k.0 p on, refl))), k.1, k.2)
      where
        same-value : (x y : ℕ) → valued x ≡ valued y → x ≡ y
        same-value x y e = cc

-- THE SAME CALLS
alike_refused : (r q : Answer) → Alike r q → is_refused r ≡ is_refused q
alike_refused r q (inl e) = ap is_refused e
alike_refused r q (inr (inl x)) = ap is_refused x.2 ∙ sym (ap is_refused x.3)
alike_refused r q (inr (inr x)) = ap is_refused x.3 ∙ sym (ap is_refused x.4)

alike_after : (s : Content) (c : Call) (r q : Answer) → Alike r q → after s c r ≡ after s c q
alike_after s (add o is) r q a = ap (λ b. cond b s (with_picture s o is)) (alike_refused r q a)
alike_after s (tell e cells) r q a = ap (λ b. cond b s (with_entry s e)) (alike_refused r q a)
alike_after s (must a b) r q z = refl
alike_after s (why a b n) r q z = refl
alike_after s (calls.value p) r q z = refl
alike_after s (apply o xs) r q z = refl
alike_after s lock r q z = refl
alike_after s reopen r q z = refl

follows : (cap : ℕ) (s : Content) → Sound cap s → (l m : List (Call × Answer)) → Goes cap s l → Goes cap s m → AllZip (λ c d. c.0 ≡ d.0) l m →
    (leaves s l ≡ leaves s m) × AllZip (λ c d. Alike c.1 d.1) l m
follows cap s g [] [] h k e = (refl, tt)
follows cap s g [] (d ∷ m) h k e = absurd e
follows cap s g (c ∷ l) [] h k e = absurd e
follows cap s g (c ∷ l) (d ∷ m) h k e =
    let a = alike_law cap s g.0 c.0 c.1 d.1 h.1 (subst (λ x. Answers cap s x d.1) (sym e.0) k.1) in
    let q : after s d.0 d.1 ≡ after s c.0 c.1 = ap (λ x. after s x d.1) (sym e.0) ∙ sym (alike_after s c.0 c.1 d.1 a) in
    let f = follows cap (after s c.0 c.1) (step_sound cap c.0 c.1 s g h.1) l m h.2 (subst (λ t. Goes cap t m) q k.2) e.1 in
    (f.0 ∙ ap (λ t. leaves t m) (sym q), (a, f.1))

pub same_calls_law : SameCallsLaw
same_calls_law cap l m h k e = follows cap empty (empty_sound cap) l m h k e

-- ANOTHER CAPACITY
never_fewer : (s : Content) (log : List (Call × Answer)) → length s.pictures ≤ length (leaves s log).pictures
never_fewer s [] = omega arith
never_fewer s (c ∷ log) = omega (arith, one c.0 c.1, never_fewer (after s c.0 c.1) log)
  where
    longer : (o : ℕ) (is : List ℕ) (b : Bool) → length s.pictures ≤ length (cond b s (with_picture s o is)).pictures
    longer o is true = omega arith
    longer o is false = omega (arith, length-append s.pictures (record { operation = o; inputs = is } ∷ []))

    level : (e : Entry) (b : Bool) → length s.pictures ≤ length (cond b s (with_entry s e)).pictures
    level e true = omega arith
    level e false = omega arith

    one : (c : Call) (r : Answer) → length s.pictures ≤ length (after s c r).pictures
    one (add o is) r = longer o is (is_refused r)
    one (tell e cells) r = level e (is_refused r)
    one (must a b) r = omega arith
    one (why a b n) r = omega arith
    one (calls.value p) r = omega arith
    one (apply o xs) r = omega arith
    one lock r = omega arith
    one reopen r = omega arith

carry : (bad : Type 0) (f : Refusal) (r : Answer) (A B : Type 0) → (A → B) → Unless bad f r A → Unless bad f r B
carry bad f r A B k (inl h) = inl h
carry bad f r A B k (inr h) = inr (h.0, k h.1)

other_capacity : (cap more : ℕ) (s : Content) (c : Call) (r : Answer) → ¬ (r ≡ refused full) → length (after s c r).pictures ≤ more → Answers cap s c r → Answers more s c r
other_capacity cap more s (add o is) r n l h = carry _ _ r _ _ (carry _ _ r _ _ room) h
  where
    P : List Picture
    P = s.pictures

    Low : Type 0
    Low = (m : ℕ) × Lowest (with_picture s o is).pictures s.entries (length P + 1) m × (r ≡ added (length P + 1) m)

    small : Low → ¬ (more ≤ length P)
    small h k =
        omega (
          arith,
          length-append P (record { operation = o; inputs = is } ∷ []),
          subst (λ b. length (cond b s (with_picture s o is)).pictures ≤ more) (ap is_refused h.2) l,
        )

    room : Unless ((1024 ≤ length P) ⊎ (cap ≤ length P)) full r Low → Unless ((1024 ≤ length P) ⊎ (more ≤ length P)) full r Low
    room (inl h) = absurd (n h.1)
    room (inr h) = inr ((λ k. ⊎_elim (λ a. h.0 (inl a)) (small h.1) k), h.1)
other_capacity cap more s (tell e cells) r n l h = h
other_capacity cap more s (must a b) r n l h = h
other_capacity cap more s (why a b k) r n l h = h
other_capacity cap more s (calls.value p) r n l h = h
other_capacity cap more s (apply o xs) r n l h = h
other_capacity cap more s lock r n l h = h
other_capacity cap more s reopen r n l h = h

other_run : (cap more : ℕ) (s : Content) (log : List (Call × Answer)) → All (λ c. ¬ (c.1 ≡ refused full)) log → length (leaves s log).pictures ≤ more →
    Goes cap s log → Goes more s log
other_run cap more s [] n l h = tt
other_run cap more s (c ∷ log) n l h =
    let t = after s c.0 c.1 in
    let m = uncons (λ d. ¬ (d.1 ≡ refused full)) c log n in
    (h.0, other_capacity cap more s c.0 c.1 m.0 (omega (arith, never_fewer t log, l)) h.1, other_run cap more t log m.1 l h.2)

pub capacity_law : CapacityLaw
capacity_law cap more log n l h = other_run cap more empty log n l h
