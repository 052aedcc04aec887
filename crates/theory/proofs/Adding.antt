-- Twins, and a picture that is added and finds its twin. Assumes nothing.
use Rattle.std.proofs.Common.{◌≡◌, ℕ, suc, ◌+◌, ◌<◌, List, [], ◌∷◌, length, sym, refl, ap, subst, subst₂, arith, length-append}
use Rattle.std.specs.List.{AllZip}
use Rattle.theory.specs.Sheet.{Picture, Entry, inputs, Is, Closure, Lowest}
use Rattle.theory.specs.Calls.{added, with_picture}
use Rattle.theory.specs.Laws.{TwinsLaw, TwinLaw}
use Rattle.theory.proofs.Closed.{c_twins}
use Rattle.theory.proofs.Numbers.{passed}

each_length : (R : ℕ → ℕ → Type 0) (xs ys : List ℕ) → AllZip R xs ys → length xs ≡ length ys
each_length R [] [] e = refl
each_length R [] (y ∷ ys) e = absurd e
each_length R (x ∷ xs) [] e = absurd e
each_length R (x ∷ xs) (y ∷ ys) e = ap suc (each_length R xs ys e.1)

pub twins_law : TwinsLaw
twins_law P R a b = (
  (λ o i j. (o, subst₂ (λ xs ys. AllZip (Is R) xs ys) (sym i) (sym j) tt)),
  (λ t. each_length (Is R) (inputs P a) (inputs P b) t.1),
)

pub twin_law : TwinLaw
twin_law cap s o is n m h q on t = (joined, low)
  where
    P : List Picture
    P = (with_picture s o is).pictures

    E : List Entry
    E = s.entries

    x : (k : ℕ) × Lowest P E (length s.pictures + 1) k × (added n m ≡ added (length s.pictures + 1) k)
    x = passed _ _ (added n m) _ refl (passed _ _ (added n m) _ refl (passed _ _ (added n m) _ refl h))

    first : (a b c d : ℕ) → added a b ≡ added c d → a ≡ c
    first a b c d e = cc

    second : (a b c d : ℕ) → added a b ≡ added c d → b ≡ d
    second a b c d e = cc

    number : n ≡ length s.pictures + 1
    number = first _ _ _ _ x.2

    lowest : Lowest P E n m
    lowest = subst (λ k. Lowest P E n k) (sym (second _ _ _ _ x.2)) (subst (λ j. Lowest P E j x.0) (sym number) x.1)

    joined : Closure P E n q
    joined = c_twins P E n q lowest.0.0 (on.0, omega (arith, on.1, length-append s.pictures (record { operation = o; inputs = is } ∷ []))) t

    low : m < n
    low = omega (arith, lowest.1 q joined, on.1, number)
