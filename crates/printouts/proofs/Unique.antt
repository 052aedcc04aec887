-- A line has one meaning, or one refusal with one detail. Assumes nothing.
use Rattle.std.proofs.Common.{◌≡◌, ℕ, ◌+◌, ◌-◌, ◌<◌, ◌≤◌, ◌⊎◌, List, [], ◌∷◌, ◌++◌, map, length, take, drop, All, sym, refl, ap, ◌∙◌, subst, inl, inr, arith}
use Rattle.std.proofs.lemmas.List.{append_assoc, append-nil, take-append-drop, take-take}
use Rattle.std.proofs.lemmas.Bool.{cases_order, cases_lt}
use Rattle.std.proofs.lemmas.List.Elements.{All-head, All-tail}
use Rattle.printouts.specs.Form.{value, spaced, Formed, Valid, Viable, Spoiled, Narrow, TooWide, Says, Misread, OneReading}
use Rattle.printouts.specs.Numerals.{Bare}
use Rattle.printouts.proofs.Peeling.{Runs, peel}

bare_after : (ds : List (List ℕ)) → Bare (spaced ds ++ [])
bare_after [] = tt
bare_after (d ∷ ds) = λ h. omega (arith, h.0)

runs_whole : (ds : List (List ℕ)) → Runs ds []
runs_whole [] = tt
runs_whole (d ∷ ds) = (inr (inr (bare_after ds)), runs_whole ds)

no_more : (ms : List (List ℕ)) → [] ≡ spaced ms → ms ≡ []
no_more [] e = refl
no_more (m ∷ ms) e = absurd (let z : ◌≡◌ {A = ℕ} 0 1 = cc (e) in omega arith)

pub one_form : (bs : List ℕ) (c c' : ℕ) (ns ns' : List (List ℕ)) → Formed bs c ns → Formed bs c' ns' → (c ≡ c') × (ns ≡ ns')
one_form bs c c' ns ns' f g =
    let e : c ∷ spaced ns ≡ c' ∷ spaced ns' = sym f.spells ∙ g.spells in
    let hd : c ≡ c' = cc (e) in
    let tl : spaced ns ≡ spaced ns' = cc (e) in
    let p = peel ns ns' [] f.proper g.proper (runs_whole ns) (append-nil (spaced ns) ∙ tl) in
    (hd, sym (p.1 ∙ (ap (λ x. ns ++ x) (no_more p.0 p.2) ∙ append-nil ns)))

viable_front : (xs ys : List ℕ) → Viable (xs ++ ys) → Viable xs
viable_front xs ys (r, v) = (ys ++ r, subst Valid (append_assoc xs ys r) v)

viable_take : (bs : List ℕ) (p q : ℕ) → p ≤ q → Viable (take q bs) → Viable (take p bs)
viable_take bs p q l v =
    subst Viable (take-take p q bs l) (viable_front (take p (take q bs)) (drop p (take q bs)) (subst Viable (sym (take-append-drop p (take q bs))) v))

valid_viable : (bs : List ℕ) → Valid bs → Viable bs
valid_viable bs v = ([], subst Valid (sym (append-nil bs)) v)

pub not_both : (bs : List ℕ) (p : ℕ) → Spoiled bs p → Valid bs → ⊥
not_both bs p s v = go (cases_lt (length bs) p)
  where
    go : (length bs < p) ⊎ (p ≤ length bs) → ⊥
    go (inl h) = s.early (omega (arith, s.within)) v
    go (inr h) = s.never h (viable_front (take p bs) (drop p bs) (subst Viable (sym (take-append-drop p bs)) (valid_viable bs v)))

before : (bs : List ℕ) (p q : ℕ) → Spoiled bs p → Spoiled bs q → p < q → ⊥
before bs p q s t h = s.never (omega (arith, t.within)) (viable_take bs p (q - 1) (omega arith) t.fine)

pub one_place : (bs : List ℕ) (p q : ℕ) → Spoiled bs p → Spoiled bs q → p ≡ q
one_place bs p q s t = go (cases_order p q)
  where
    go : (p ≡ q) ⊎ ((p < q) ⊎ (q < p)) → p ≡ q
    go (inl e) = e
    go (inr (inl h)) = absurd (before bs p q s t h)
    go (inr (inr h)) = absurd (before bs q p t s h)

first_wide : (b b' : List (List ℕ)) (w w' : List ℕ) (a a' : List (List ℕ)) → b ++ (w ∷ a) ≡ b' ++ (w' ∷ a') → All Narrow b → 65535 < value w → All Narrow b' → 65535 < value w' → b ≡ b'
first_wide [] [] w w' a a' e n l n' l' = refl
first_wide [] (x ∷ b') w w' a a' e n l n' l' = absurd (let z : x ≡ w = cc (e) in let k : value w ≤ 65535 = subst Narrow z (All-head Narrow x b' n') in omega arith)
first_wide (x ∷ b) [] w w' a a' e n l n' l' = absurd (let z : x ≡ w' = cc (e) in let k : value w' ≤ 65535 = subst Narrow z (All-head Narrow x b n) in omega arith)
first_wide (x ∷ b) (y ∷ b') w w' a a' e n l n' l' =
    let hd : x ≡ y = cc (e) in
    let tl : b ++ (w ∷ a) ≡ b' ++ (w' ∷ a') = cc (e) in
    let r = first_wide b b' w w' a a' tl (All-tail Narrow x b n) l (All-tail Narrow y b' n') l' in
    cc (hd, r)

one_wide : (bs : List ℕ) (p q : ℕ) → TooWide bs p → TooWide bs q → p ≡ q
one_wide bs p q s t =
    let u = one_form bs s.letter t.letter (s.before ++ (s.wide ∷ s.after)) (t.before ++ (t.wide ∷ t.after)) s.line t.line in
    let e = first_wide s.before t.before s.wide t.wide s.after t.after u.1 s.narrow s.above t.narrow t.above in
    s.place ∙ (ap (λ x. 1 + (length (spaced x) + 2)) e ∙ sym t.place)

wide_valid : (bs : List ℕ) (p : ℕ) → TooWide bs p → Valid bs
wide_valid bs p s = (s.letter, s.before ++ (s.wide ∷ s.after), s.line)

all_wide : (b : List (List ℕ)) (w : List ℕ) (a : List (List ℕ)) → All Narrow (b ++ (w ∷ a)) → value w ≤ 65535
all_wide [] w a h = All-head Narrow w a h
all_wide (x ∷ b) w a h = all_wide b w a (All-tail Narrow x (b ++ (w ∷ a)) h)

one_misread : (bs : List ℕ) (n n' p p' : ℕ) → Misread bs n p → Misread bs n' p' → (n ≡ n') × (p ≡ p')
one_misread bs n n' p p' (inl (e, s)) (inl (f, t)) = (e ∙ sym f, one_place bs p p' s t)
one_misread bs n n' p p' (inl (e, s)) (inr (f, t)) = absurd (not_both bs p s (wide_valid bs p' t))
one_misread bs n n' p p' (inr (e, s)) (inl (f, t)) = absurd (not_both bs p' t (wide_valid bs p s))
one_misread bs n n' p p' (inr (e, s)) (inr (f, t)) = (e ∙ sym f, one_wide bs p p' s t)

never_both : (bs : List ℕ) (c n p : ℕ) (ns : List ℕ) → Says bs c ns → Misread bs n p → ⊥
never_both bs c n p ns s (inl (e, t)) = not_both bs p t (c, s.numerals, s.line)
never_both bs c n p ns s (inr (e, t)) =
    let u = one_form bs c t.letter s.numerals (t.before ++ (t.wide ∷ t.after)) s.line t.line in
    omega (arith, all_wide t.before t.wide t.after (subst (All Narrow) u.1 s.narrow), t.above)

pub one_reading : OneReading
one_reading = (
  (λ bs c c' ns ns' s t.
      let u = one_form bs c c' s.numerals t.numerals s.line t.line in
      (u.0, s.numbers ∙ (ap (map value) u.1 ∙ sym t.numbers))),
  one_misread,
  never_both,
)
