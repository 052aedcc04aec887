-- A call that its checks stop, and what the answers of must and why say. Assumes nothing.
use Rattle.std.proofs.Common.{◌≡◌, ℕ, ◌≤◌, Bool, true, false, eqb, List, [], ◌∷◌, ◌++◌, length, take, drop, Err, Result, sym, refl, subst, inl, inr, arith}
use Rattle.std.proofs.lemmas.List.{take_at}
use Rattle.std.proofs.lemmas.Bool.{eqb-true, eqb-false}
use Rattle.theory.specs.Sheet.{Picture, Entry, On, Placed, Closure}
use Rattle.theory.specs.Calls.{Content, Answers, Answer, told, explained, tell, must, why, after, Shown}
use Rattle.congruence.specs.Working.{Closes}
use Rattle.reasons.specs.declared.step.Step.{Step}
use Rattle.reasons.specs.Table.{Written}
use Rattle.engines.specs.declared.fault.SheetFault.{SheetFault}
use Rattle.engines.specs.declared.fault.SheetFault.TheVariants.{FewCells, NoPicture, Full, Contradiction, Inputs, Apart}
use Rattle.engines.specs.Faults.{reply}
use Rattle.engines.specs.Checks.{Stopped}
use Rattle.engines.specs.Tables.{ToldTable}
use Rattle.engines.proofs.Deciding.{stopped}

-- what comes back of a slice that was lent
pub lent : {X : Type 0} (xs ys : List X) (n : ℕ) → length xs ≡ n → take n (xs ++ drop (length xs) ys) ≡ xs
lent xs ys n e = take_at xs (drop (length xs) ys) n e

still : (X : Type 0) (P : List Picture) (E : List Entry) (t : List Step) (cells n k a b : ℕ) (f : SheetFault) → Stopped cells n k a b f → ToldTable {X = X} P E t t (Err f)
still X P E t cells n k a b FewCells h = refl
still X P E t cells n k a b NoPicture h = refl
still X P E t cells n k a b Full h = refl
still X P E t cells n k a b (Contradiction c) h = absurd h
still X P E t cells n k a b Inputs h = refl
still X P E t cells n k a b Apart h = refl

-- an entry that its first checks stop
pub stopped_whole : {X : Type 0} (says : X → Answer) (cap : ℕ) (s : Content) (e : Entry) (t : List Step) (n k a b : ℕ) → n ≡ length s.pictures → k ≡ length s.entries →
    (Placed s.pictures e → On s.pictures a × On s.pictures b) → (On s.pictures a → On s.pictures b → Placed s.pictures e) →
    (r : Result X SheetFault) (f : SheetFault) → r ≡ Err f → Stopped (length t) n k a b f →
    Answers cap s (tell e (length t)) (reply says r) × (s ≡ after s (tell e (length t)) (reply says r)) × ToldTable s.pictures (s.entries ++ (e ∷ [])) t t r
stopped_whole {X} says cap s e t n k a b en ek to from r f er h =
    subst (λ (q : Result X SheetFault). Answers cap s (tell e (length t)) (reply says q) × (s ≡ after s (tell e (length t)) (reply says q)) × ToldTable s.pictures (s.entries ++ (e ∷ [])) t t q) (sym er)
    (stopped cap s e (length t) n k a b en ek to from f h, refl, still X s.pictures (s.entries ++ (e ∷ [])) t (length t) n k a b f h)

-- must
pub must_answers : (cap : ℕ) (s : Content) (f : ℕ → ℕ) (a b : ℕ) (r : Bool) → Closes s.pictures s.entries f → On s.pictures a → On s.pictures b → r ≡ eqb (f a) (f b) → Answers cap s (must a b) (told r)
must_answers cap s f a b true c oa ob e = inr ((λ n. n (oa, ob)), inl ((c a b oa ob).0 (eqb-true (f a) (f b) (sym e)), refl))
must_answers cap s f a b false c oa ob e = inr ((λ n. n (oa, ob)), inr ((λ k. eqb-false (f a) (f b) (sym e) ((c a b oa ob).1 k)), refl))

-- a chain that was written shows what it joins
pub shown : (P : List Picture) (E : List Entry) (a b m : ℕ) (t t' : List Step) → Written P E a b m t t' → Shown P E a b m
shown P E a b m t t' w = (w.steps, w.explains, w.many)

-- why
pub why_answers : (cap : ℕ) (s : Content) (a b n : ℕ) (t t' : List Step) → 1024 ≤ length t → On s.pictures a → On s.pictures b → Closure s.pictures s.entries a b →
    Written s.pictures s.entries a b n t t' → Answers cap s (why a b (length t)) (explained n)
why_answers cap s a b n t t' l oa ob c w =
    inr ((λ h. omega (arith, h, l)), inr ((λ k. k (oa, ob)), inr ((λ k. k c), (n, shown s.pictures s.entries a b n t t' w, refl))))
