-- Marked elements, one more at a time. Assumes nothing.
use Rattle.std.proofs.Common.{◌≡◌, ℕ, zero, suc, ◌+◌, ◌<◌, ◌≤◌, Bool, true, false, cond, List, [], ◌∷◌, ◌++◌, map, length, get_or, min, take, replicate, refl, ap, ◌∙◌, add-one, arith}
use Rattle.std.proofs.lemmas.List.{append-nil, length-take}
use Rattle.std.proofs.lemmas.Bool.{cond-true, cond-false}
use Rattle.theory.specs.Slices.{kept}

kept_suc : {X : Type 0} (bs : List Bool) (xs : List X) (i : ℕ) (b : Bool) (x : X) → i < length bs → i < length xs →
    kept (take (suc i) bs) (take (suc i) xs) ≡ kept (take i bs) (take i xs) ++ cond (get_or bs i b) (get_or xs i x ∷ []) []
kept_suc [] xs i b x l u = absurd (omega arith)
kept_suc (c ∷ bs) [] i b x l u = absurd (omega arith)
kept_suc (true ∷ bs) (y ∷ xs) zero b x l u = refl
kept_suc (false ∷ bs) (y ∷ xs) zero b x l u = refl
kept_suc (true ∷ bs) (y ∷ xs) (suc i) b x l u = ap (λ z. y ∷ z) (kept_suc bs xs i b x (omega arith) (omega arith))
kept_suc (false ∷ bs) (y ∷ xs) (suc i) b x l u = kept_suc bs xs i b x (omega arith) (omega arith)

kept_more : {X : Type 0} (bs : List Bool) (xs : List X) (i : ℕ) (b : Bool) (x : X) → i < length bs → i < length xs →
    kept (take (i + 1) bs) (take (i + 1) xs) ≡ kept (take i bs) (take i xs) ++ cond (get_or bs i b) (get_or xs i x ∷ []) []
kept_more bs xs i b x l u = ap (λ j. kept (take j bs) (take j xs)) (add-one i) ∙ kept_suc bs xs i b x l u

-- one marked element more
pub kept_more_yes : {X : Type 0} (bs : List Bool) (xs : List X) (i : ℕ) (b : Bool) (x : X) → i < length bs → i < length xs → get_or bs i b ≡ true →
    kept (take (i + 1) bs) (take (i + 1) xs) ≡ kept (take i bs) (take i xs) ++ get_or xs i x ∷ []
kept_more_yes bs xs i b x l u t = kept_more bs xs i b x l u ∙ ap (λ z. kept (take i bs) (take i xs) ++ z) (cond-true _ _ _ t)

-- one element more that is not marked
pub kept_more_no : {X : Type 0} (bs : List Bool) (xs : List X) (i : ℕ) (b : Bool) (x : X) → i < length bs → i < length xs → get_or bs i b ≡ false →
    kept (take (i + 1) bs) (take (i + 1) xs) ≡ kept (take i bs) (take i xs)
kept_more_no bs xs i b x l u t = kept_more bs xs i b x l u ∙ ap (λ z. kept (take i bs) (take i xs) ++ z) (cond-false _ _ _ t) ∙ append-nil _

-- marks behind the last element say nothing
pub kept_all : {X : Type 0} (bs : List Bool) (xs : List X) (i : ℕ) → length xs ≤ i → kept (take i bs) (take i xs) ≡ kept bs xs
kept_all [] xs zero l = refl
kept_all [] xs (suc i) l = refl
kept_all (b ∷ bs) [] zero l = refl
kept_all (b ∷ bs) [] (suc i) l = refl
kept_all (b ∷ bs) (x ∷ xs) zero l = absurd (omega arith)
kept_all (true ∷ bs) (x ∷ xs) (suc i) l = ap (λ z. x ∷ z) (kept_all bs xs i (omega arith))
kept_all (false ∷ bs) (x ∷ xs) (suc i) l = kept_all bs xs i (omega arith)

-- nor does anything behind where marks or elements end
pub kept_min : {X : Type 0} (bs : List Bool) (xs : List X) (i : ℕ) → i ≡ min (length xs) (length bs) → kept (take i bs) (take i xs) ≡ kept bs xs
kept_min [] xs zero e = refl
kept_min [] xs (suc i) e = refl
kept_min (b ∷ bs) [] zero e = refl
kept_min (b ∷ bs) [] (suc i) e = refl
kept_min (b ∷ bs) (x ∷ xs) zero e = absurd (omega (arith, e))
kept_min (true ∷ bs) (x ∷ xs) (suc i) e = ap (λ z. x ∷ z) (kept_min bs xs i (omega (arith, e)))
kept_min (false ∷ bs) (x ∷ xs) (suc i) e = kept_min bs xs i (omega (arith, e))

pub kept_map : {X Y : Type 0} (f : X → Y) (bs : List Bool) (xs : List X) → kept bs (map f xs) ≡ map f (kept bs xs)
kept_map f [] xs = refl
kept_map f (b ∷ bs) [] = refl
kept_map f (true ∷ bs) (x ∷ xs) = ap (λ z. f x ∷ z) (kept_map f bs xs)
kept_map f (false ∷ bs) (x ∷ xs) = kept_map f bs xs

-- where all are marked, all are kept
pub kept_true : {X : Type 0} (n : ℕ) (xs : List X) → length xs ≤ n → kept (replicate n true) xs ≡ xs
kept_true zero [] l = refl
kept_true (suc n) [] l = refl
kept_true zero (x ∷ xs) l = absurd (omega arith)
kept_true (suc n) (x ∷ xs) l = ap (λ z. x ∷ z) (kept_true n xs (omega arith))

-- no more are kept than there are
pub kept_few : {X : Type 0} (bs : List Bool) (xs : List X) → length (kept bs xs) ≤ length xs
kept_few [] xs = omega arith
kept_few (b ∷ bs) [] = omega arith
kept_few (true ∷ bs) (x ∷ xs) = omega (arith, kept_few bs xs)
kept_few (false ∷ bs) (x ∷ xs) = omega (arith, kept_few bs xs)

-- no more are kept of the first ones than these are
pub kept_few_of : {X : Type 0} (bs : List Bool) (xs : List X) (i : ℕ) → length (kept (take i bs) (take i xs)) ≤ i
kept_few_of bs xs i = omega (arith, kept_few (take i bs) (take i xs), length-take i xs)
