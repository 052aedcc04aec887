-- `All` of a list that has a first element, in two parts; and `AllZip` of a relation that can be decided. Assumes nothing.
use Rattle.std.proofs.Common.{List, [], ◌∷◌, All}
use Rattle.std.specs.List.{AllZip}
use Rattle.std.proofs.lemmas.List.Elements.{All-head, All-tail}

pub uncons : {X : Type 0} (Q : X → Type 0) (x : X) (xs : List X) → All Q (x ∷ xs) → Q x × All Q xs
uncons Q x xs h = (All-head Q x xs h, All-tail Q x xs h)

pub dec_zip : {X Y : Type 0} (R : X → Y → Type 0) → ((x : X) (y : Y) → Dec (R x y)) → (xs : List X) (ys : List Y) → Dec (AllZip R xs ys)
dec_zip R d [] [] = yes tt
dec_zip R d [] (y ∷ ys) = no (λ h. h)
dec_zip R d (x ∷ xs) [] = no (λ h. h)
dec_zip R d (x ∷ xs) (y ∷ ys) = go (d x y) (dec_zip R d xs ys)
  where
    go : Dec (R x y) → Dec (AllZip R xs ys) → Dec (AllZip R (x ∷ xs) (y ∷ ys))
    go (yes a) (yes b) = yes (a, b)
    go (yes a) (no b) = no (λ h. b h.1)
    go (no a) e = no (λ h. a h.0)
