-- A slice of a chain: some of its steps, in their order. Assumes nothing.
use Rattle.std.specs.Prelude.{◌-◌, ◌≤◌, Bool, true, false, List, [], ◌∷◌, length}
use Rattle.std.specs.List.{AllZip}
use Rattle.theory.specs.Sheet.{Picture, Entry, Proper, inputs}
use Rattle.theory.specs.Reasons.{Reason, by_entry, by_twins, JoinedBy, Derivation}

-- the elements whose mark is true
abbrev pub kept : {X : Type 0} → List Bool → List X → List X
kept [] xs = []
kept (b ∷ bs) [] = []
kept (true ∷ bs) (x ∷ xs) = x ∷ kept bs xs
kept (false ∷ bs) (x ∷ xs) = kept bs xs

-- the inputs of a twins step are joined in pairs by the steps S
abbrev pub Propped : List Picture → List Reason → Reason → Type 0
Propped P S (by_entry l r k) = Unit {0}
Propped P S (by_twins l r) = AllZip (JoinedBy P S) (inputs P l) (inputs P r)

-- each marked step is propped by the marked steps before it and S
abbrev pub Supported : List Picture → List Reason → List Bool → List Reason → Type 0
Supported P S [] T = Unit {0}
Supported P S (b ∷ bs) [] = Unit {0}
Supported P S (true ∷ bs) (s ∷ T) = Propped P S s × Supported P (s ∷ S) bs T
Supported P S (false ∷ bs) (s ∷ T) = Supported P S bs T

-- a supported slice of a chain is a chain
abbrev pub SliceLaw : Type 0
SliceLaw =
    (P : List Picture) (E : List Entry) (T : List Reason) → Derivation P E [] T →
    (bs : List Bool) → Supported P [] bs T → Derivation P E [] (kept bs T)

-- a chain has fewer steps than the sheet has pictures, and none where it has no picture
abbrev pub FewLaw : Type 0
FewLaw = (P : List Picture) (E : List Entry) → Proper P E → (T : List Reason) → Derivation P E [] T → length T ≤ length P - 1
