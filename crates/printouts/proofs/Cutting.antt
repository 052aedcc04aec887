-- The first line of a text, and those that follow. Assumes nothing.
use Rattle.std.proofs.Common.{◌≡◌, ℕ, ◌+◌, ◌<◌, ◌≤◌, Bool, true, false, cond, List, [], ◌∷◌, ◌++◌, length, get_or, take, drop, All, Some, None, sym, ap, ◌∙◌, subst, arith}
use Rattle.std.specs.Prelude.{◌==◌, position}
use Rattle.std.specs.List.{position_or_len}
use Rattle.std.proofs.lemmas.Bool.Decides.{nat_tests}
use Rattle.std.proofs.lemmas.List.{take-append-drop, drop_more, get_or-take, length-take-le, take_all}
use Rattle.std.proofs.lemmas.List.Elements.{All-head, All-tail, All-from_get_or}
use Rattle.std.proofs.lemmas.List.Quantifiers.{position-Some}
use Rattle.std.proofs.lemmas.List.Sums.{fails_before_first}
use Rattle.printouts.specs.Printouts.{lines, glue}

-- the byte that ends a line
abbrev pub newline : ℕ → Bool
newline b = b == 10

abbrev Inner : ℕ → Type 0
Inner b = newline b ≡ false

inner_first : (b : ℕ) (bs : List ℕ) → Inner b → lines (b ∷ bs) ≡ glue b (lines bs)
inner_first b bs h = ap (λ t. cond t ([] ∷ lines bs) (glue b (lines bs))) h

pub lines_cut : (pre : List ℕ) (c : ℕ) (rest : List ℕ) → All Inner pre → newline c ≡ true → lines (pre ++ (c ∷ rest)) ≡ pre ∷ lines rest
lines_cut [] c rest h e = ap (λ t. cond t ([] ∷ lines rest) (glue c (lines rest))) e
lines_cut (b ∷ pre) c rest h e = inner_first b (pre ++ (c ∷ rest)) (All-head Inner b pre h) ∙ ap (glue b) (lines_cut pre c rest (All-tail Inner b pre h) e)

pub lines_last : (b : ℕ) (pre : List ℕ) → All Inner (b ∷ pre) → lines (b ∷ pre) ≡ (b ∷ pre) ∷ []
lines_last b [] h = inner_first b [] (All-head Inner b [] h)
lines_last b (p ∷ pre) h = inner_first b (p ∷ pre) (All-head Inner b (p ∷ pre) h) ∙ ap (glue b) (lines_last p pre (All-tail Inner b (p ∷ pre) h))

inner_take : (text : List ℕ) (i : ℕ) → i ≤ length text → ((k : ℕ) → k < i → Inner (get_or text k 0)) → All Inner (take i text)
inner_take text i fit h = All-from_get_or Inner (take i text) 0 (λ k l. let lt : k < i = omega (arith, length-take-le i text fit) in subst Inner (sym (get_or-take i text k 0 lt)) (h k lt))

pub cut_at : (text : List ℕ) (i : ℕ) → position newline text ≡ Some i → lines text ≡ take i text ∷ lines (drop (i + 1) text)
cut_at text i e =
    let s = position-Some newline text i 0 e in
    let q : text ≡ take i text ++ (get_or text i 0 ∷ drop (i + 1) text) = sym (take-append-drop i text) ∙ ap (λ x. take i text ++ x) (drop_more text i 0 s.0) in
    ap lines q ∙ lines_cut (take i text) (get_or text i 0) (drop (i + 1) text) (inner_take text i (omega (arith, s.0)) s.2) s.1

past : (text : List ℕ) → position newline text ≡ None → length text ≤ position_or_len newline text
past text e = grind (arith, nat_tests)

pub cut_last : (text : List ℕ) → 0 < length text → position newline text ≡ None → lines text ≡ text ∷ []
cut_last [] some e = absurd (omega arith)
cut_last (b ∷ bs) some e =
    let h : (k : ℕ) → k < length (b ∷ bs) → Inner (get_or (b ∷ bs) k 0) = λ k l. fails_before_first newline (b ∷ bs) k 0 (omega (arith, l, past (b ∷ bs) e)) in
    lines_last b bs (subst (All Inner) (take_all (length (b ∷ bs)) (b ∷ bs) (omega arith)) (inner_take (b ∷ bs) (length (b ∷ bs)) (omega arith) h))
