-- The first record with a signature. Assumes nothing.
use Rattle.std.proofs.Common.{◌≡◌, ℕ, zero, suc, ◌<◌, ◌≤◌, true, false, List, [], ◌∷◌, map, length, get_or, take, None, Some, Option, sym, refl, ap, ◌∙◌, arith}
use Rattle.std.specs.Prelude.{MatchOption}
use Rattle.std.specs.List.{AllWithin, HoldsAt}
use Rattle.std.proofs.lemmas.List.{length-map, take_all}
use Rattle.indexes.specs.declared.record.Record.{Record}
use Rattle.indexes.specs.Meaning.{Lead, held, same_signature}
use Rattle.indexes.specs.Records.{lead_of, Stands}
use Rattle.indexes.specs.Maps.{cons_other}

module _ (o : ℕ) (w : List ℕ) where
  abbrev pub Has : Record → Type 0
  Has r = same_signature (lead_of r).op (lead_of r).row o w ≡ true

  abbrev pub HasNot : Record → Type 0
  HasNot r = same_signature (lead_of r).op (lead_of r).row o w ≡ false

  before : (xs : List Record) (i : ℕ) → AllWithin HasNot xs 0 i → i ≤ length xs → held (take i (map lead_of xs)) o w ≡ None
  before xs zero f l = refl
  before [] (suc i) f l = absurd (omega arith)
  before (x ∷ xs) (suc i) f l =
      cons_other (lead_of x) (take i (map lead_of xs)) o w (f 0 x (omega arith) (omega arith))
      ∙ before xs i (λ k d low high. f (suc k) d (omega arith) (omega arith)) (omega arith)

  there : (xs : List Record) (i : ℕ) → i < length xs → HoldsAt Has xs i → (d : Lead) → same_signature (get_or (map lead_of xs) i d).op (get_or (map lead_of xs) i d).row o w ≡ true
  there [] i l h d = absurd (omega arith)
  there (x ∷ xs) zero l h d = h x
  there (x ∷ xs) (suc i) l h d = there xs i (omega arith) h d

  -- what `position` says of the records, said of what they store
  pub placed : (xs : List Record) (r : Option ℕ) → MatchOption r (AllWithin HasNot xs 0 (length xs)) (λ i. (i < length xs) × HoldsAt Has xs i × AllWithin HasNot xs 0 i) → MatchOption r (held (map lead_of xs) o w ≡ None) (Stands (map lead_of xs) o w)
  placed xs None f = ap (λ es. held es o w) (sym (take_all (length xs) (map lead_of xs) (omega (arith, length-map xs lead_of)))) ∙ before xs (length xs) f (omega arith)
  placed xs (Some i) p = record {
    within = omega (arith, p.0, length-map xs lead_of);
    before = before xs i p.2 (omega (arith, p.0));
    here = there xs i p.0 p.1;
  }
