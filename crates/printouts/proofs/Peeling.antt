-- The numerals that were read so far begin every reading of the line. Assumes nothing.
use Rattle.std.proofs.Common.{◌≡◌, ℕ, ◌+◌, ◌*◌, ◌≤◌, ◌⊎◌, List, [], ◌∷◌, ◌++◌, length, get_or, All, sym, refl, ap, ◌∙◌, subst, inl, inr, arith}
use Rattle.std.proofs.lemmas.List.{append_assoc, append-nil, length-append}
use Rattle.std.proofs.lemmas.List.Elements.{All-head, All-tail}
use Rattle.printouts.specs.Form.{Digit, Numeral, spaced}
use Rattle.printouts.specs.Numerals.{Bare, Closed}

-- each numeral is closed by what follows it
abbrev pub Runs : List (List ℕ) → List ℕ → Type 0
Runs [] rest = Unit {0}
Runs (d ∷ ds) rest = Closed d (spaced ds ++ rest) × Runs ds rest

pub spaced_append : (xs ys : List (List ℕ)) → spaced (xs ++ ys) ≡ spaced xs ++ spaced ys
spaced_append [] ys = refl
spaced_append (x ∷ xs) ys = ap (λ t. 32 ∷ (x ++ t)) (spaced_append xs ys) ∙ ap (λ t. 32 ∷ t) (sym (append_assoc x (spaced xs) (spaced ys)))

pub spaced_push : (xs : List (List ℕ)) (d rest : List ℕ) → spaced (xs ++ (d ∷ [])) ++ rest ≡ spaced xs ++ (32 ∷ (d ++ rest))
spaced_push xs d rest = ap (λ t. t ++ rest) (spaced_append xs (d ∷ [])) ∙ (append_assoc (spaced xs) (32 ∷ (d ++ [])) rest ∙ ap (λ t. spaced xs ++ (32 ∷ (t ++ rest))) (append-nil d))

-- a numeral and its space take six bytes at most
pub length-spaced : (ds : List (List ℕ)) → All Numeral ds → length (spaced ds) ≤ 6 * length ds
length-spaced [] h = omega arith
length-spaced (d ∷ ds) h = omega (arith, length-spaced ds (All-tail Numeral d ds h), length-append d (spaced ds), (All-head Numeral d ds h).short)

-- of two lists that begin one list, one begins the other
pub overlap : (d n R S : List ℕ) → d ++ R ≡ n ++ S → ((e : List ℕ) × (n ≡ d ++ e) × (R ≡ e ++ S)) ⊎ ((x : ℕ) × (e : List ℕ) × (d ≡ n ++ (x ∷ e)) × (S ≡ (x ∷ e) ++ R))
overlap [] n R S q = inl (n, refl, q)
overlap (x ∷ d) [] R S q = inr (x, d, refl, sym q)
overlap (x ∷ d) (y ∷ n) R S q =
    let hd : x ≡ y = cc in
    let tl : d ++ R ≡ n ++ S = cc in
    elim (overlap d n R S tl) [ inl h ↦ inl (h.0, (cc (h.1, hd)), h.2) | inr h ↦ inr (h.0, h.1, (cc (h.2, hd)), h.3) ]

all_last : (n : List ℕ) (x : ℕ) (e : List ℕ) → All Digit (n ++ (x ∷ e)) → Digit x
all_last [] x e h = All-head Digit x e h
all_last (y ∷ n) x e h = all_last n x e (All-tail Digit y (n ++ (x ∷ e)) h)

-- what follows a numeral in a line
abbrev pub Ends : List ℕ → Type 0
Ends [] = Unit {0}
Ends (c ∷ cs) = c ≡ 32

pub ends_spaced : (ds : List (List ℕ)) → Ends (spaced ds)
ends_spaced [] = tt
ends_spaced (d ∷ ds) = refl

ends_not : (S : List ℕ) (x : ℕ) (e : List ℕ) → Ends S → S ≡ x ∷ e → Digit x → ⊥
ends_not [] x e h q d = let z : ◌≡◌ {A = ℕ} 0 1 = cc in omega arith
ends_not (s ∷ S) x e h q d = let z : s ≡ x = cc in omega arith

bare_not : (R : List ℕ) (x : ℕ) (e : List ℕ) → Bare R → R ≡ x ∷ e → Digit x → ⊥
bare_not [] x e h q d = let z : ◌≡◌ {A = ℕ} 0 1 = cc in omega arith
bare_not (r ∷ R) x e h q d = let z : x ≡ r = cc in h (subst Digit z d)

longer : (d n : List ℕ) (x : ℕ) (e : List ℕ) → n ≡ d ++ (x ∷ e) → length n ≡ length d + (1 + length e)
longer d n x e q = omega (arith, ap length q, length-append d (x ∷ e))

-- no numeral goes on from a closed one
pub only : (d R n : List ℕ) (x : ℕ) (e S : List ℕ) → Numeral d → Closed d R → Numeral n → n ≡ d ++ (x ∷ e) → R ≡ (x ∷ e) ++ S → ⊥
only d R n x e S hd (inl z) hn q r =
    let f : get_or n 0 0 ≡ 48 = ap (λ t. get_or t 0 0) (q ∙ ap (λ t. t ++ (x ∷ e)) z) in
    omega (arith, hn.plain f, longer d n x e q, hd.some)
only d R n x e S hd (inr (inl five)) hn q r = omega (arith, longer d n x e q, hn.short)
only d R n x e S hd (inr (inr b)) hn q r = bare_not R x (e ++ S) b r (all_last d x e (subst (All Digit) q hn.digits))

-- two numerals that begin one text are one
pub same_numeral : (d R n S : List ℕ) → Numeral d → Closed d R → Numeral n → Ends S → d ++ R ≡ n ++ S → (n ≡ d) × (R ≡ S)
same_numeral d R n S hd cl hn en q = go (overlap d n R S q)
  where
    go : ((e : List ℕ) × (n ≡ d ++ e) × (R ≡ e ++ S)) ⊎ ((x : ℕ) × (e : List ℕ) × (d ≡ n ++ (x ∷ e)) × (S ≡ (x ∷ e) ++ R)) → (n ≡ d) × (R ≡ S)
    go (inl ([], a, b)) = (a ∙ append-nil d, b)
    go (inl (x ∷ e, a, b)) = absurd (only d R n x e S hd cl hn a b)
    go (inr (x, e, a, b)) = absurd (ends_not S x (e ++ R) en b (all_last n x e (subst (All Digit) a hd.digits)))

-- the numerals that were read, each closed, begin every row of numerals that spells the text
pub peel : (done ns : List (List ℕ)) (R : List ℕ) → All Numeral done → All Numeral ns → Runs done R → spaced done ++ R ≡ spaced ns → (ms : List (List ℕ)) × (ns ≡ done ++ ms) × (R ≡ spaced ms)
peel [] ns R hd hn run q = (ns, refl, q)
peel (d ∷ done) [] R hd hn run q = absurd (let z : ◌≡◌ {A = ℕ} 0 1 = cc in omega arith)
peel (d ∷ done) (n ∷ ns) R hd hn run q =
    let tl : (d ++ spaced done) ++ R ≡ n ++ spaced ns = cc in
    let two = same_numeral d (spaced done ++ R) n (spaced ns) (All-head Numeral d done hd) run.0 (All-head Numeral n ns hn) (ends_spaced ns) (sym (append_assoc d (spaced done) R) ∙ tl) in
    let more = peel done ns R (All-tail Numeral d done hd) (All-tail Numeral n ns hn) run.1 two.1 in
    (more.0, (cc (two.0, more.1)), more.2)
