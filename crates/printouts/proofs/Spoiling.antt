-- The place from which a line has not the form. Assumes nothing.
use Rattle.std.proofs.Common.{◌≡◌, ℕ, zero, suc, ◌+◌, ◌-◌, ◌<◌, ◌≤◌, List, [], ◌∷◌, ◌++◌, length, take, replicate, All, sym, refl, ap, ◌∙◌, subst, inl, arith}
use Rattle.std.proofs.lemmas.List.{append_assoc, append-nil, length-append, length-replicate, take_at, length_push}
use Rattle.std.proofs.lemmas.List.Elements.{All-nil, All-cons, All-head, All-tail, All-append}
use Rattle.printouts.specs.Form.{Digit, Numeral, spaced, Takes, Valid, Viable, Spoiled}
use Rattle.printouts.specs.Numerals.{Bare, Bounds}
use Rattle.printouts.proofs.Peeling.{Runs, spaced_append, peel}

-- t is what is read and the rest, and what is read can go on, but not by the rest's first byte, nor end there
pub spoiled_at : (t pre rest : List ℕ) → t ≡ pre ++ rest → Viable pre → ((x : ℕ) (r : List ℕ) → rest ≡ x ∷ r → Viable (pre ++ (x ∷ [])) → ⊥) → (rest ≡ [] → Valid pre → ⊥) → Spoiled t (length pre + 1)
spoiled_at t pre [] q v stuck early =
    let e : t ≡ pre = q ∙ append-nil pre in
    record {
      from = omega arith;
      within = omega (arith, ap length e);
      fine = subst Viable (sym (take_at pre [] (length pre + 1 - 1) (omega arith)) ∙ ap (take (length pre + 1 - 1)) (sym q)) v;
      never = λ h _. omega (arith, ap length e);
      early = λ _ h. early refl (subst Valid e h);
    }
spoiled_at t pre (x ∷ r) q v stuck early =
    let len : length t ≡ length pre + suc (length r) = ap length q ∙ length-append pre (x ∷ r) in
    let front : take (length pre + 1) t ≡ pre ++ (x ∷ []) = ap (take (length pre + 1)) (q ∙ sym (append_assoc pre (x ∷ []) r)) ∙ take_at (pre ++ (x ∷ [])) r (length pre + 1) (length_push pre x) in
    record {
      from = omega arith;
      within = omega arith;
      fine = subst Viable (sym (take_at pre (x ∷ r) (length pre + 1 - 1) (omega arith)) ∙ ap (take (length pre + 1 - 1)) (sym q)) v;
      never = λ _ h. stuck x r refl (subst Viable front h);
      early = λ h _. omega arith;
    }

-- the numeral 0
zero_numeral : Numeral (48 ∷ [])
zero_numeral = record { digits = All-cons Digit 48 [] (omega arith, omega arith) (All-nil Digit); some = omega arith; short = omega arith; plain = λ _. refl }

zeros : (k : ℕ) → All Numeral (replicate k (48 ∷ []))
zeros zero = All-nil Numeral
zeros (suc k) = All-cons Numeral (48 ∷ []) (replicate k (48 ∷ [])) zero_numeral (zeros k)

-- a line that is filled up with zeros is valid
padded : (c : ℕ) (done : List (List ℕ)) (k : ℕ) → All Numeral done → Takes c (length done + k) → Valid (c ∷ (spaced done ++ spaced (replicate k (48 ∷ []))))
padded c done k h t = (
  c,
  done ++ replicate k (48 ∷ []),
  record {
    spells = ap (λ x. c ∷ x) (sym (spaced_append done (replicate k (48 ∷ []))));
    proper = All-append Numeral done (replicate k (48 ∷ [])) h (zeros k);
    takes = subst (Takes c) (sym (length-append done (replicate k (48 ∷ [])) ∙ ap (λ n. length done + n) (length-replicate k (48 ∷ [])))) t;
  },
)

module _ (c least most : ℕ) (b : Bounds c least most) (done : List (List ℕ)) (hd : All Numeral done) where
  -- a valid line goes on after the numerals
  pub viable_gap : length done ≤ most → Viable (c ∷ spaced done)
  viable_gap few =
      let k = least - length done in
      (spaced (replicate (least - length done) (48 ∷ [])), padded c done (least - length done) hd (b.to (length done + (least - length done)) (omega arith) (omega (arith, b.order))))

  -- a valid line goes on after the numerals and a space
  pub viable_space : length done < most → Viable (c ∷ (spaced done ++ (32 ∷ [])))
  viable_space few =
      let k : ℕ = least - (length done + 1) in
      let v : Valid (c ∷ (spaced done ++ spaced (replicate (suc (least - (length done + 1))) (48 ∷ [])))) = padded c done (suc (least - (length done + 1))) hd (b.to (length done + suc (least - (length done + 1))) (omega arith) (omega (arith, b.order))) in
      (48 ∷ spaced (replicate (least - (length done + 1)) (48 ∷ [])), subst (λ x. Valid (c ∷ x)) (sym (append_assoc (spaced done) (32 ∷ []) (48 ∷ spaced (replicate (least - (length done + 1)) (48 ∷ []))))) v)

  -- what a valid line that goes on from here has
  pub goes_on : (R : List ℕ) → Runs done R → Valid (c ∷ (spaced done ++ R)) → (ms : List (List ℕ)) × (R ≡ spaced ms) × All Numeral (done ++ ms) × (least ≤ length done + length ms) × (length done + length ms ≤ most)
  goes_on R run (c', ns, f) =
      let same : c ≡ c' = cc f.spells in
      let tail : spaced done ++ R ≡ spaced ns = cc f.spells in
      let p = peel done ns R hd f.proper run tail in
      let few = b.from (length ns) (subst (λ x. Takes x (length ns)) (sym same) f.takes) in
      let len : length ns ≡ length done + length p.0 = ap length p.1 ∙ length-append done p.0 in
      (p.0, p.2, subst (All Numeral) p.1 f.proper, omega (arith, few.0), omega (arith, few.1))

-- only the next byte closes what is read
pub runs_head : (ds : List (List ℕ)) (x : ℕ) (r r' : List ℕ) → Runs ds (x ∷ r) → Runs ds (x ∷ r')
runs_head [] x r r' h = tt
runs_head (d ∷ []) x r r' h = (h.0, tt)
runs_head (d ∷ (e ∷ ds)) x r r' h = (h.0, runs_head (e ∷ ds) x r r' h.1)

not_empty : (m s : List ℕ) → Numeral m → [] ≡ m ++ s → ⊥
not_empty [] s h q = omega (arith, h.some)
not_empty (x ∷ m) s h q = let z : ◌≡◌ {A = ℕ} 0 1 = cc in omega arith

digit_first : (m s : List ℕ) (x : ℕ) (r : List ℕ) → Numeral m → x ∷ r ≡ m ++ s → Digit x
digit_first [] s x r h q = absurd (omega (arith, h.some))
digit_first (y ∷ m) s x r h q = let z : y ≡ x = cc in subst Digit z (All-head Digit y m h.digits)

all_next : (done : List (List ℕ)) (m : List ℕ) (ms : List (List ℕ)) → All Numeral (done ++ (m ∷ ms)) → Numeral m
all_next [] m ms h = All-head Numeral m ms h
all_next (d ∷ done) m ms h = all_next done m ms (All-tail Numeral d (done ++ (m ∷ ms)) h)

module _ (c least most : ℕ) (b : Bounds c least most) (done : List (List ℕ)) (hd : All Numeral done) where
  -- after a numeral, neither a space that may come nor an end that may
  pub spoiled_gap : (t rest : List ℕ) → t ≡ c ∷ (spaced done ++ rest) → Runs done rest → length done ≤ most → (rest ≡ [] → length done < least) → ((x : ℕ) (r : List ℕ) → rest ≡ x ∷ r → x ≡ 32 → length done ≡ most) → Spoiled t (length (spaced done) + 2)
  spoiled_gap t rest q run few early stuck =
      subst (Spoiled t) (omega arith) (spoiled_at t (c ∷ spaced done) rest q (viable_gap c least most b done hd few) never ends)
    where
      full : (x : ℕ) (r : List ℕ) → rest ≡ x ∷ r → (ms : List (List ℕ)) (r' : List ℕ) → x ∷ r' ≡ spaced ms → length done + length ms ≤ most → ⊥
      full x r e [] r' s l = let z : ◌≡◌ {A = ℕ} 0 1 = cc (s) in omega arith
      full x r e (m ∷ ms) r' s l = let z : x ≡ 32 = cc (s) in omega (arith, stuck x r e z)

      never : (x : ℕ) (r : List ℕ) → rest ≡ x ∷ r → Viable ((c ∷ spaced done) ++ (x ∷ [])) → ⊥
      never x r e (r', v) =
          let w : Valid (c ∷ (spaced done ++ (x ∷ r'))) = subst (λ y. Valid (c ∷ y)) (append_assoc (spaced done) (x ∷ []) r') v in
          let g = goes_on c least most b done hd (x ∷ r') (runs_head done x r r' (subst (Runs done) e run)) w in
          full x r e g.0 r' g.1 g.4

      last : (ms : List (List ℕ)) → [] ≡ spaced ms → least ≤ length done + length ms → rest ≡ [] → ⊥
      last [] s l e = omega (arith, early e)
      last (m ∷ ms) s l e = let z : ◌≡◌ {A = ℕ} 0 1 = cc (s) in omega arith

      ends : rest ≡ [] → Valid (c ∷ spaced done) → ⊥
      ends e v =
          let w : Valid (c ∷ (spaced done ++ [])) = subst (λ y. Valid (c ∷ y)) (sym (append-nil (spaced done))) v in
          let g = goes_on c least most b done hd [] (subst (Runs done) e run) w in
          last g.0 g.1 g.3 e

  -- after a space, no digit
  pub spoiled_space : (t more : List ℕ) → t ≡ c ∷ (spaced done ++ (32 ∷ more)) → Runs done (32 ∷ more) → length done < most → Bare more → Spoiled t (length (spaced done) + 3)
  spoiled_space t more q run few bare =
      subst (Spoiled t) (omega (arith, length_push (spaced done) 32)) (spoiled_at t (c ∷ (spaced done ++ (32 ∷ []))) more (q ∙ ap (λ x. c ∷ x) (sym (append_assoc (spaced done) (32 ∷ []) more))) (viable_space c least most b done hd few) never ends)
    where
      first : (ms : List (List ℕ)) (R : List ℕ) → 32 ∷ R ≡ spaced ms → All Numeral (done ++ ms) → (m : List ℕ) × (s : List ℕ) × Numeral m × (R ≡ m ++ s)
      first [] R e h = absurd (let z : ◌≡◌ {A = ℕ} 0 1 = cc (e) in omega arith)
      first (m ∷ ms) R e h = (m, spaced ms, all_next done m ms h, cc (e))

      is-bare : (x : ℕ) (r : List ℕ) → more ≡ x ∷ r → Digit x → ⊥
      is-bare x r e = subst Bare e bare

      never : (x : ℕ) (r : List ℕ) → more ≡ x ∷ r → Viable ((c ∷ (spaced done ++ (32 ∷ []))) ++ (x ∷ [])) → ⊥
      never x r e (r', v) =
          let j : ((spaced done ++ (32 ∷ [])) ++ (x ∷ [])) ++ r' ≡ spaced done ++ (32 ∷ (x ∷ r')) = append_assoc (spaced done ++ (32 ∷ [])) (x ∷ []) r' ∙ append_assoc (spaced done) (32 ∷ []) (x ∷ r') in
          let w : Valid (c ∷ (spaced done ++ (32 ∷ (x ∷ r')))) = subst (λ y. Valid (c ∷ y)) j v in
          let g = goes_on c least most b done hd (32 ∷ (x ∷ r')) (runs_head done 32 more (x ∷ r') run) w in
          let f = first g.0 (x ∷ r') g.1 g.2 in
          is-bare x r e (digit_first f.0 f.1 x r' f.2 f.3)

      ends : more ≡ [] → Valid (c ∷ (spaced done ++ (32 ∷ []))) → ⊥
      ends e v =
          let g = goes_on c least most b done hd (32 ∷ []) (runs_head done 32 more [] run) v in
          let f = first g.0 [] g.1 g.2 in
          not_empty f.0 f.1 f.2 f.3

-- the line does not begin with a letter that takes any number
pub spoiled_letter : (t : List ℕ) → ((x : ℕ) (r : List ℕ) (n : ℕ) → t ≡ x ∷ r → Takes x n → ⊥) → Spoiled t 1
spoiled_letter t none = spoiled_at t [] t refl (112 ∷ spaced ((48 ∷ []) ∷ []), padded 112 [] 1 (All-nil Numeral) (inl (refl, omega arith, omega arith))) never ends
  where
    never : (x : ℕ) (r : List ℕ) → t ≡ x ∷ r → Viable (x ∷ []) → ⊥
    never x r e (r', (c, ns, f)) = let z : c ≡ x = cc f.spells in none x r (length ns) e (subst (λ y. Takes y (length ns)) z f.takes)

    ends : t ≡ [] → Valid [] → ⊥
    ends e (c, ns, f) = let z : ◌≡◌ {A = ℕ} 0 1 = cc f.spells in omega arith
