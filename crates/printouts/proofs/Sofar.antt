-- What the reader knows between two numbers of a line, how one more number keeps it, and what it gives at the end. Assumes nothing.
use Rattle.std.proofs.Common.{◌≡◌, ℕ, ◌+◌, ◌-◌, ◌<◌, ◌≤◌, Bool, cond, List, [], ◌∷◌, ◌++◌, map, length, get_or, take, drop, Ok, Err, All, Result, sym, refl, ap, ◌∙◌, subst, inl, inr, arith, MatchResult}
use Rattle.std.specs.Prelude.{nat_lt}
use Rattle.std.specs.Result.{result_and}
use Rattle.std.proofs.lemmas.Bool.Decides.{nat_tests}
use Rattle.std.proofs.lemmas.List.{append_assoc, append-nil, length-append, length_push, map_push, nil_from_length}
use Rattle.std.proofs.lemmas.Slice.{first_rest}
use Rattle.std.proofs.lemmas.List.Elements.{All-push}
use Rattle.printouts.specs.declared.fault.NumberFault.{NumberFault}
use Rattle.printouts.specs.declared.fault.NumberFault.TheVariants.{Wide}
use Rattle.printouts.specs.Form.{Numeral, value, spaced, Formed, Spoiled, Narrow, Says, Misread}
use Rattle.printouts.specs.Numerals.{Bare, Closed, Took, Bounds}
use Rattle.printouts.specs.Faults.{number_fault_number, number_fault_detail}
use Rattle.printouts.proofs.Peeling.{Runs, spaced_push}
use Rattle.printouts.proofs.Spoiling.{spoiled_gap, spoiled_space}

-- e names the first of the numerals that is above 65,535
pub record FirstWide (done : List (List ℕ)) (e : NumberFault) : Type 0 where
  pub before : List (List ℕ)
  pub wide : List ℕ
  pub after : List (List ℕ)
  pub cut : done ≡ before ++ (wide ∷ after)
  pub narrow : All Narrow before
  pub above : 65535 < value wide
  pub place : e ≡ Wide (1 + (length (spaced before) + 2))

-- the numerals done are read, and rest is left; as long as all of them fit, the numbers are their values
pub record Sofar (text rest numbers : List ℕ) (fits : Result (Unit {0}) NumberFault) : Type 0 where
  pub done : List (List ℕ)
  pub cut : text ≡ spaced done ++ rest
  pub proper : All Numeral done
  pub runs : Runs done rest
  pub count : length done ≡ length numbers
  pub row : MatchResult fits (λ _. All Narrow done × (numbers ≡ map value done)) (λ e. FirstWide done e)

-- what is left is shorter by what was read
pub reach : (text rest numbers : List ℕ) (fits : Result (Unit {0}) NumberFault) → (s : Sofar text rest numbers fits) → length text ≡ length (spaced s.done) + length rest
reach text rest numbers fits s = ap length s.cut ∙ length-append (spaced s.done) rest

-- one more numeral that is closed
pub runs_push : (done : List (List ℕ)) (d rest : List ℕ) → Runs done (32 ∷ (d ++ rest)) → Closed d rest → Runs (done ++ (d ∷ [])) rest
runs_push [] d rest h k = (k, tt)
runs_push (e ∷ done) d rest h k = (subst (Closed e) (sym (spaced_push done d rest)) h.0, runs_push done d rest h.1 k)

-- the first byte of a part, and what is left
pub split_first : (rest : List ℕ) (x : ℕ) → 1 ≤ length rest → get_or rest 0 0 ≡ x → rest ≡ x ∷ take (length rest - 1) (drop 1 rest)
split_first rest x some e = first_rest rest 0 (omega arith) ∙ ap (λ y. y ∷ take (length rest - 1) (drop 1 rest)) e

module _ (text rest more next : List ℕ) (v : ℕ) (numbers : List ℕ) (fits : Result (Unit {0}) NumberFault) (s : Sofar text rest numbers fits) (e : rest ≡ 32 ∷ more) (t : Took more v next) where
  abbrev grown : List (List ℕ)
  grown = s.done ++ (t.ds ∷ [])

  more_is : rest ≡ 32 ∷ (t.ds ++ next)
  more_is = e ∙ ap (λ x. 32 ∷ x) t.cut

  cut_more : text ≡ spaced grown ++ next
  cut_more = s.cut ∙ (ap (λ x. spaced s.done ++ x) more_is ∙ sym (spaced_push s.done t.ds next))

  -- one more number is read
  grow : (n : ℕ) (fits' : Result (Unit {0}) NumberFault) → MatchResult fits' (λ _. All Narrow grown × (numbers ++ (n ∷ []) ≡ map value grown)) (λ f. FirstWide grown f) → Sofar text next (numbers ++ (n ∷ [])) fits'
  grow n fits' row = record {
    done = grown;
    cut = cut_more;
    proper = All-push Numeral s.done t.ds s.proper t.proper;
    runs = runs_push s.done t.ds next (subst (Runs s.done) more_is s.runs) t.closed;
    count = length_push s.done t.ds ∙ (ap (λ x. x + 1) s.count ∙ sym (length_push numbers n));
    row = row;
  }

  -- the first that is too wide stays the first
  first_more : (f : NumberFault) → FirstWide s.done f → FirstWide grown f
  first_more f w = record {
    before = w.before;
    wide = w.wide;
    after = w.after ++ (t.ds ∷ []);
    cut = ap (λ x. x ++ (t.ds ∷ [])) w.cut ∙ append_assoc w.before (w.wide ∷ w.after) (t.ds ∷ []);
    narrow = w.narrow;
    above = w.above;
    place = w.place;
  }

  -- where its first digit stands
  place_more : length text - length more + 2 ≡ 1 + (length (spaced s.done) + 2)
  place_more = omega (arith, reach text rest numbers fits s, ap length e)

-- one more number, which fits
pub sofar_narrow : (text rest more next : List ℕ) (v : ℕ) (numbers : List ℕ) (fits : Result (Unit {0}) NumberFault) → Sofar text rest numbers fits → rest ≡ 32 ∷ more → Took more v next →
    v ≤ 65535 → Sofar text next (numbers ++ (v ∷ [])) fits
sofar_narrow text rest more next v numbers (Ok u) s e t small =
    grow text rest more next v numbers (Ok u) s e t v (Ok u) (
      All-push Narrow s.done t.ds s.row.0 (subst (λ x. x ≤ 65535) t.number small),
      ap (λ x. x ++ (v ∷ [])) s.row.1 ∙ (ap (λ x. map value s.done ++ (x ∷ [])) t.number ∙ sym (map_push value s.done t.ds)),
    )
sofar_narrow text rest more next v numbers (Err f) s e t small = grow text rest more next v numbers (Err f) s e t v (Err f) (first_more text rest more next v numbers (Err f) s e t f s.row)

-- one more number, which does not fit
pub sofar_wide : (text rest more next : List ℕ) (v n : ℕ) (numbers : List ℕ) (fits : Result (Unit {0}) NumberFault) → Sofar text rest numbers fits → rest ≡ 32 ∷ more → Took more v next →
    65535 < v → Sofar text next (numbers ++ (n ∷ [])) (result_and fits (Err (Wide (length text - length more + 2))))
sofar_wide text rest more next v n numbers (Ok u) s e t large =
    grow text rest more next v numbers (Ok u) s e t n (Err (Wide (length text - length more + 2)))
    (record { before = s.done; wide = t.ds; after = []; cut = refl; narrow = s.row.0; above = subst (λ x. 65535 < x) t.number large; place = ap Wide (place_more text rest more next v numbers (Ok u) s e t) })
sofar_wide text rest more next v n numbers (Err f) s e t large = grow text rest more next v numbers (Err f) s e t n (Err f) (first_more text rest more next v numbers (Err f) s e t f s.row)

module _ (c least most : ℕ) (b : Bounds c least most) (text rest numbers : List ℕ) (fits : Result (Unit {0}) NumberFault) (s : Sofar text rest numbers fits) where
  whole : c ∷ text ≡ c ∷ (spaced s.done ++ rest)
  whole = ap (λ x. c ∷ x) s.cut

  -- after a number neither a space nor the end may come: 7
  pub ends_gap : length numbers ≤ most → (length rest ≡ 0 → length numbers < least) → (1 ≤ length rest → get_or rest 0 0 ≡ 32 → length numbers ≡ most) → Misread (c ∷ text) 7 (length text - length rest + 2)
  ends_gap few early stuck =
      inl (
        refl,
        subst (Spoiled (c ∷ text)) (omega (arith, reach text rest numbers fits s))
            (spoiled_gap c least most b s.done s.proper (c ∷ text) rest whole s.runs (omega (arith, s.count))
            (λ e. omega (arith, s.count, early (ap length e)))
            (λ x r e z. omega (arith, s.count, stuck (omega (arith, ap length e)) (ap (λ y. get_or y 0 0) e ∙ z)))),
      )

  -- after a space no digit comes: 7
  pub ends_space : (more : List ℕ) → rest ≡ 32 ∷ more → length numbers < most → Bare more → Misread (c ∷ text) 7 (length text - length more + 2)
  ends_space more e few bare =
      inl (
        refl,
        subst (Spoiled (c ∷ text)) (omega (arith, reach text rest numbers fits s, ap length e))
            (spoiled_space c least most b s.done s.proper (c ∷ text) more (whole ∙ ap (λ x. c ∷ (spaced s.done ++ x)) e) (subst (Runs s.done) e s.runs) (omega (arith, s.count)) bare),
      )

  -- the whole line is read
  formed : length rest ≡ 0 → least ≤ length numbers → length numbers ≤ most → Formed (c ∷ text) c s.done
  formed e enough few = record {
    spells = whole ∙ ap (λ x. c ∷ x) (ap (λ x. spaced s.done ++ x) (nil_from_length rest e) ∙ append-nil (spaced s.done));
    proper = s.proper;
    takes = b.to (length s.done) (omega (arith, s.count)) (omega (arith, s.count));
  }

-- the line has the form, and a number does not fit: 8
pub ends_wide : (c least most : ℕ) (b : Bounds c least most) (text rest numbers : List ℕ) (f : NumberFault) → Sofar text rest numbers (Err f) → length rest ≡ 0 → least ≤ length numbers → length numbers ≤ most → Misread (c ∷ text) (number_fault_number f) (number_fault_detail f)
ends_wide c least most b text rest numbers f s e enough few =
    let w : FirstWide s.done f = s.row in
    let P : NumberFault → Type 0 = λ g. Misread (c ∷ text) (number_fault_number g) (number_fault_detail g) in
    subst P (sym w.place)
    (inr (
      refl,
      record {
        letter = c;
        before = w.before;
        wide = w.wide;
        after = w.after;
        line = subst (Formed (c ∷ text) c) w.cut (formed c least most b text rest numbers (Err f) s e enough few);
        narrow = w.narrow;
        above = w.above;
        place = refl;
      },
    ))

-- the line has the form, and its numbers fit
pub ends_well : (c least most : ℕ) (b : Bounds c least most) (text rest numbers : List ℕ) (u : Unit {0}) → Sofar text rest numbers (Ok u) → length rest ≡ 0 → least ≤ length numbers → length numbers ≤ most → Says (c ∷ text) c numbers
ends_well c least most b text rest numbers u s e enough few = record {
  numerals = s.done;
  line = formed c least most b text rest numbers (Ok u) s e enough few;
  narrow = s.row.0;
  numbers = s.row.1;
}

-- a row that has room takes the number
pub pushed : (b : Bool) (numbers out : List ℕ) (n most : ℕ) → b ≡ nat_lt (length numbers) most → length numbers < most → out ≡ cond b (numbers ++ (n ∷ [])) numbers → out ≡ numbers ++ (n ∷ [])
pushed b numbers out n most eb h e = grind (arith, nat_tests)

-- the same of equal numbers and an equal fault
pub moved : {text rest numbers numbers' : List ℕ} {fits fits' : Result (Unit {0}) NumberFault} → Sofar text rest numbers fits → numbers' ≡ numbers → fits' ≡ fits → Sofar text rest numbers' fits'
moved {text} {rest} {numbers} {numbers'} {fits} {fits'} s e f =
    let P : List ℕ → Type 0 = λ x. Sofar text rest x fits' in
    let Q : Result (Unit {0}) NumberFault → Type 0 = λ x. Sofar text rest numbers x in
    subst P (sym e) (subst Q (sym f) s)
