-- A printout that grows line by line. Assumes nothing.
use Rattle.std.proofs.Common.{◌≡◌, ℕ, List, [], ◌∷◌, ◌++◌, length, sym, refl, ap, ◌∙◌, subst}
use Rattle.std.proofs.lemmas.List.{append_assoc, append-nil, nil_from_length}
use Rattle.printouts.specs.Replies.{Outcome, Reply, Replies, reply_text}
use Rattle.printouts.specs.Printouts.{lines, Prints}

-- what prints the rest of the text from here, after what is out already, prints the whole
abbrev pub Awaits : {S : Type 0} → (S → ℕ → List ℕ → Outcome → S → Type 0) → S → List ℕ → List ℕ → S → List ℕ → Type 0
Awaits {S} does start text out s rest = (o : List ℕ) (s' : S) → Prints does s (lines rest) o s' → Prints does start (lines text) (out ++ o) s'

module _ {S : Type 0} (does : S → ℕ → List ℕ → Outcome → S → Type 0) (start s : S) (text rest out : List ℕ) (waits : Awaits does start text out s rest) where
  -- one line more
  pub turn : (line next : List ℕ) (r : Reply) (m : S) (out' : List ℕ) → lines rest ≡ line ∷ lines next → Replies does s line r m → out' ≡ out ++ (reply_text r ++ (10 ∷ [])) → Awaits does start text out' m next
  turn line next r m out' cut rep e o s' h =
      let P : List (List ℕ) → Type 0 = λ ls. Prints does s ls (reply_text r ++ (10 ∷ o)) s' in
      let Q : List ℕ → Type 0 = λ x. Prints does start (lines text) x s' in
      let j : out' ++ o ≡ out ++ (reply_text r ++ (10 ∷ o)) = ap (λ x. x ++ o) e ∙ (append_assoc out (reply_text r ++ (10 ∷ [])) o ∙ ap (λ x. out ++ x) (append_assoc (reply_text r) (10 ∷ []) o)) in
      subst Q (sym j) (waits (reply_text r ++ (10 ∷ o)) s' (subst P (sym cut) (r, m, o, rep, refl, h)))

  -- no line is left
  pub finish : length rest ≡ 0 → Prints does start (lines text) out s
  finish e =
      let P : List (List ℕ) → Type 0 = λ ls. Prints does s ls [] s in
      let Q : List ℕ → Type 0 = λ x. Prints does start (lines text) x s in
      subst Q (append-nil out) (waits [] s (subst P (sym (ap lines (nil_from_length rest e))) (refl, refl)))
