-- Pictures with notes that stand beside them. Assumes nothing.
use Rattle.std.proofs.Common.{◌≡◌, ℕ, zero, suc, ◌<◌, ◌≤◌, List, [], ◌∷◌, length, get_or, set, min, refl, ap, arith, Bool, map, drop}
use native.Mathlib.Numerals.{unary_clauses}
use Rattle.theory.specs.Sheet.{Picture}
use Rattle.rows.specs.Row.{cells_of}
use Rattle.congruence.specs.declared.picture.Picture.{Picture as Held}
use Rattle.congruence.specs.declared.beside.Note.{Note}
use Rattle.congruence.specs.Drawn.{beside, held_at, sheet, drawn}

-- the picture with this note
abbrev pub with : Held → Note → Held
with p n = record { inputs = p.inputs; row = n.row; op = p.op; waits = n.waits }

pub beside_inside : (ps : List Held) (ns : List Note) (i : ℕ) → i < length (beside ps ns) → (i < length ps) × (i < length ns)
beside_inside [] ns i h = absurd (omega (arith, h))
beside_inside (p ∷ ps) [] i h = absurd (omega (arith, h))
beside_inside (p ∷ ps) (n ∷ ns) zero h = (omega arith, omega arith)
beside_inside (p ∷ ps) (n ∷ ns) (suc j) h = let k = beside_inside ps ns j (omega (arith, h)) in (omega (arith, k.0), omega (arith, k.1))

pub beside_at : (ps : List Held) (ns : List Note) (i : ℕ) (p : Held) (n : Note) → i < length (beside ps ns) → held_at (beside ps ns) i ≡ with (get_or ps i p) (get_or ns i n)
beside_at [] ns i p n h = absurd (omega (arith, h))
beside_at (x ∷ ps) [] i p n h = absurd (omega (arith, h))
beside_at (x ∷ ps) (y ∷ ns) zero p n h = refl
beside_at (x ∷ ps) (y ∷ ns) (suc j) p n h = beside_at ps ns j p n (omega (arith, h))

pub beside_set : (ps : List Held) (ns : List Note) (i : ℕ) (n : Note) → i < length (beside ps ns) → beside ps (set ns i n) ≡ set (beside ps ns) i (with (held_at (beside ps ns) i) n)
beside_set [] ns i n h = absurd (omega (arith, h))
beside_set (x ∷ ps) [] i n h = absurd (omega (arith, h))
beside_set (x ∷ ps) (y ∷ ns) zero n h = refl
beside_set (x ∷ ps) (y ∷ ns) (suc j) n h = ap (λ (qs : List Held). with x y ∷ qs) (beside_set ps ns j n (omega (arith, h)))

pub beside_length : (ps : List Held) (ns : List Note) → (length (beside ps ns) ≤ length ps) × (length (beside ps ns) ≤ length ns)
beside_length [] ns = (omega arith, omega arith)
beside_length (x ∷ ps) [] = (omega arith, omega arith)
beside_length (x ∷ ps) (y ∷ ns) = let k = beside_length ps ns in (omega (arith, k.0), omega (arith, k.1))

pub beside_count : (ps : List Held) (ns : List Note) → min (length ps) (length ns) ≡ length (beside ps ns)
beside_count [] ns = simp unary_clauses refl
beside_count (x ∷ ps) [] = simp unary_clauses refl
beside_count (x ∷ ps) (y ∷ ns) = simp unary_clauses (ap suc (beside_count ps ns))

-- as many notes as pictures: no picture is left out
pub beside_sized : (ps : List Held) (ns : List Note) → length ns ≡ length ps → length (beside ps ns) ≡ length ps
beside_sized [] ns e = refl
beside_sized (x ∷ ps) [] e = let z : ◌≡◌ {A = ℕ} 0 (suc (length ps)) = e in absurd (omega (arith, z))
beside_sized (x ∷ ps) (y ∷ ns) e = ap suc (beside_sized ps ns (cc))

-- as many notes as pictures: the sheet is that of the pictures, and what is noted is what the notes say
pub beside_sheet : (ps : List Held) (ns : List Note) → length ns ≡ length ps → sheet (beside ps ns) ≡ sheet ps
beside_sheet [] ns e = refl
beside_sheet (x ∷ ps) [] e = let z : ◌≡◌ {A = ℕ} 0 (suc (length ps)) = e in absurd (omega (arith, z))
beside_sheet (x ∷ ps) (y ∷ ns) e = ap (λ (P : List Picture). drawn x ∷ P) (beside_sheet ps ns (cc))

pub beside_rows : (ps : List Held) (ns : List Note) → length ns ≡ length ps → map (λ (h : Held). cells_of h.row) (beside ps ns) ≡ map (λ (n : Note). cells_of n.row) ns
beside_rows [] [] e = refl
beside_rows [] (y ∷ ns) e = let z : ◌≡◌ {A = ℕ} (suc (length ns)) 0 = e in absurd (omega (arith, z))
beside_rows (x ∷ ps) [] e = let z : ◌≡◌ {A = ℕ} 0 (suc (length ps)) = e in absurd (omega (arith, z))
beside_rows (x ∷ ps) (y ∷ ns) e = ap (λ (R : List (List ℕ)). cells_of y.row ∷ R) (beside_rows ps ns (cc))

pub beside_waits : (ps : List Held) (ns : List Note) → length ns ≡ length ps → map (λ (h : Held). h.waits) (beside ps ns) ≡ map (λ (n : Note). n.waits) ns
beside_waits [] [] e = refl
beside_waits [] (y ∷ ns) e = let z : ◌≡◌ {A = ℕ} (suc (length ns)) 0 = e in absurd (omega (arith, z))
beside_waits (x ∷ ps) [] e = let z : ◌≡◌ {A = ℕ} 0 (suc (length ps)) = e in absurd (omega (arith, z))
beside_waits (x ∷ ps) (y ∷ ns) e = ap (λ (R : List Bool). y.waits ∷ R) (beside_waits ps ns (cc))

-- the notes behind the last picture stay
pub behind_set : (k i : ℕ) (ns : List Note) (n : Note) → i < k → drop k (set ns i n) ≡ drop k ns
behind_set zero i ns n h = absurd (omega (arith, h))
behind_set (suc k) i [] n h = refl
behind_set (suc k) zero (y ∷ ns) n h = refl
behind_set (suc k) (suc j) (y ∷ ns) n h = behind_set k j ns n (omega (arith, h))
