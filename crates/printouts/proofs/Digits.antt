-- A numeral that is read digit by digit. Assumes nothing.
use Rattle.std.proofs.Common.{◌≡◌, ℕ, ◌+◌, ◌-◌, ◌*◌, ◌^◌, ◌<◌, ◌≤◌, ◌⊎◌, List, [], ◌∷◌, ◌++◌, length, get_or, take, drop, All, sym, refl, ap, ◌∙◌, subst, inl, inr, pow-suc, add-one, arith}
use Rattle.std.proofs.lemmas.List.{take_rest, take_more, drop-drop, get_or-drop, get_or-take, length-drop, length-take-le, length-append, take-append-drop}
use Rattle.std.proofs.lemmas.List.Elements.{All-more}
use Rattle.std.proofs.lemmas.Bool.{cases_lt}
use Rattle.printouts.specs.Numerals.{Longest, Bare, Closed, Took}
use Rattle.printouts.specs.Form.{Digit, value_after, value}

-- the value with one more digit
pub value_push : (n : ℕ) (ds : List ℕ) (c : ℕ) → value_after n (ds ++ (c ∷ [])) ≡ value_after n ds * 10 + (c - 48)
value_push n [] c = refl
value_push n (d ∷ ds) c = value_push (n * 10 + (d - 48)) ds c

-- one more digit keeps the value below the next power of ten
pub room : (v k c : ℕ) → v < 10 ^ k → Digit c → v * 10 + (c - 48) < 10 ^ (k + 1)
room v k c h d = rw (add-one, pow-suc) (omega arith)

-- the reader's turn over one digit
pub one_more : (bs rest : List ℕ) (k v : ℕ) → k ≤ length bs → rest ≡ drop k bs → 1 ≤ length rest → All Digit (take k bs) → Digit (get_or rest 0 0) → v ≡ value (take k bs) → v < 10 ^ k →
    (k + 1 ≤ length bs) × (take (length rest - 1) (drop 1 rest) ≡ drop (k + 1) bs) × All Digit (take (k + 1) bs) × (v * 10 + (get_or rest 0 0 - 48) ≡ value (take (k + 1) bs)) × (v * 10 + (get_or rest 0 0 - 48) < 10 ^ (k + 1))
one_more bs rest k v fits e some ds d ev small =
    let len : length rest ≡ length bs - k = ap length e ∙ length-drop k bs in
    let lt : k < length bs = omega arith in
    let head : get_or rest 0 0 ≡ get_or bs k 0 = ap (λ x. get_or x 0 0) e ∙ (get_or-drop k bs 0 0 ∙ ap (λ n. get_or bs n 0) (omega arith)) in
    let more : take (k + 1) bs ≡ take k bs ++ (get_or bs k 0 ∷ []) = take_more bs k 0 lt in (
      omega arith,
      take_rest rest 1 ∙ (ap (drop 1) e ∙ drop-drop 1 k bs),
      All-more Digit bs k 0 lt ds (subst Digit head d),
      ap (λ x. x * 10 + (get_or rest 0 0 - 48)) ev ∙ (ap (λ x. value (take k bs) * 10 + (x - 48)) head ∙ (sym (value_push 0 (take k bs) (get_or bs k 0)) ∙ ap value (sym more))),
      room v k (get_or rest 0 0) small d,
    )

-- a text that begins with a digit is not bare
not_bare : (bs : List ℕ) (most : ℕ) → Longest (get_or bs 0 0) most → Bare bs → ⊥
not_bare [] most (inl first) h = omega (arith, first.0)
not_bare [] most (inr first) h = omega (arith, first.0)
not_bare (x ∷ bs) most (inl first) h = h (omega (arith, first.0), omega (arith, first.0))
not_bare (x ∷ bs) most (inr first) h = h (omega (arith, first.0), first.1)

-- a text whose first byte is no digit
pub bare_from : (xs : List ℕ) → (1 ≤ length xs → Digit (get_or xs 0 0) → ⊥) → Bare xs
bare_from [] h = tt
bare_from (x ∷ xs) h = h (omega arith)

-- one byte is the list of itself
alone : (xs : List ℕ) (x : ℕ) → length xs ≡ 1 → get_or xs 0 0 ≡ x → xs ≡ x ∷ []
alone [] x len e = absurd (omega arith)
alone (y ∷ []) x len e = ap (λ z. z ∷ []) e
alone (y ∷ (z ∷ xs)) x len e = absurd (omega arith)

module _ (bs rest : List ℕ) (most k v : ℕ) (fits : k ≤ length bs) (e : rest ≡ drop k bs) (ds : All Digit (take k bs)) (ev : v ≡ value (take k bs)) where
  len : length (take k bs) ≡ k
  len = length-take-le k bs fits

  -- the digits taken are a numeral
  taken : 1 ≤ k → k ≤ 5 → (get_or (take k bs) 0 0 ≡ 48 → length (take k bs) ≡ 1) → Closed (take k bs) rest → Took bs v rest
  taken some short plain closed = record {
    ds = take k bs;
    cut = sym (take-append-drop k bs) ∙ ap (λ x. take k bs ++ x) (sym e);
    proper = record { digits = ds; some = omega (arith, len); short = omega (arith, len); plain = plain };
    number = ev;
    closed = closed;
  }

  -- the reader stops where it has the most digits, or where no digit comes next
  pub stopped : Longest (get_or bs 0 0) most → k ≤ most → (k ≡ most) ⊎ Bare rest → Took bs v rest
  stopped first few end = go first (cases_lt 0 k)
    where
      go : Longest (get_or bs 0 0) most → (0 < k) ⊎ (k ≤ 0) → Took bs v rest
      go (inl (z, one)) (inl some) =
          let single : length (take k bs) ≡ 1 = omega (arith, len) in
          taken some (omega arith) (λ _. single) (inl (alone (take k bs) 48 single (get_or-take k bs 0 0 some ∙ z)))
      go (inr (low, high, five)) (inl some) =
          taken some (omega arith) (λ h. absurd (omega (arith, get_or-take k bs 0 0 some)))
          (inr (elim end [ inl q ↦ inl (len ∙ (q ∙ five)) | inr b ↦ inr b ]))
      go first (inr none) = absurd (empty first end)
        where
          empty : Longest (get_or bs 0 0) most → (k ≡ most) ⊎ Bare rest → ⊥
          empty (inl (z, one)) (inl q) = omega arith
          empty (inr (low, high, five)) (inl q) = omega arith
          empty at (inr b) = let z : k ≡ 0 = omega arith in not_bare bs most at (subst Bare (e ∙ ap (λ n. drop n bs) z) b)

-- a numeral takes one to five bytes
pub took_lens : (bs : List ℕ) (v : ℕ) (rest : List ℕ) → Took bs v rest → (length rest < length bs) × (length bs ≤ length rest + 5)
took_lens bs v rest t = let e : length bs ≡ length t.ds + length rest = ap length t.cut ∙ length-append t.ds rest in (omega (arith, t.proper.some), omega (arith, t.proper.short))
