-- A text has one record. Assumes nothing.
use Rattle.std.proofs.Common.{◌≡◌, ℕ, ◌≤◌, Bool, true, false, cond, eqb, List, [], ◌∷◌, ◌++◌, length, get_or, drop, Ok, Err, codes, decimal, sym, refl, ap, ◌∙◌, subst, ap₂, subst₂, inl, inr, arith}
use native.Mathlib.Decide.{dec_le}
use Rattle.theory.specs.Sheet.{same, differ, Proper, Classes}
use Rattle.theory.specs.Calls.{Call, add, tell, must, why, lock, reopen, value, apply, Content, empty, Stands, Answers, after, is_refused, with_picture, with_entry, Alike}
use Rattle.theory.specs.Calls.{Answer as Said}
use Rattle.theory.specs.Runs.{Run, leaves}
use Rattle.theory.proofs.Answering.{alike_law}
use Rattle.theory.proofs.Leaving.{call_more_law}
use Rattle.theory.proofs.Runs.{run_law}
use Rattle.theory.proofs.Small.{classes_law}
use Rattle.printouts.specs.declared.fault.LineFault.{LineFault}
use Rattle.printouts.specs.Faults.{line_fault_number, line_fault_detail, fault_text}
use Rattle.printouts.specs.Replies.{Outcome, Reply, Makes, Did, Replies, outcome_of, said_text, reply_text, carried}
use Rattle.printouts.specs.Printouts.{lines, Prints, OneRecord}
use Rattle.printouts.proofs.Unique.{one_reading}

-- answers that are the same apart from the steps of a chain print the same, and leave the same
said_alike : (r q : Said) → Alike r q → said_text r ≡ said_text q
said_alike r q (inl e) = ap said_text e
said_alike r q (inr (inl e)) = ap said_text e.2 ∙ sym (ap said_text e.3)
said_alike r q (inr (inr e)) = ap said_text e.3 ∙ sym (ap said_text e.4)

refused_alike : (r q : Said) → Alike r q → is_refused r ≡ is_refused q
refused_alike r q (inl e) = ap is_refused e
refused_alike r q (inr (inl e)) = ap is_refused e.2 ∙ sym (ap is_refused e.3)
refused_alike r q (inr (inr e)) = ap is_refused e.3 ∙ sym (ap is_refused e.4)

-- a line makes one call
call_of : ℕ → List ℕ → Call
call_of c ns =
    cond (eqb c 112) (add (get_or ns 0 0) (drop 1 ns))
    (cond (eqb c 115) (tell (same (get_or ns 0 0) (get_or ns 1 0)) 1024)
    (cond (eqb c 100) (tell (differ (get_or ns 0 0) (get_or ns 1 0)) 1024) (must (get_or ns 0 0) (get_or ns 1 0))))

made : (c : ℕ) (ns : List ℕ) (k : Call) → Makes c ns k → call_of c ns ≡ k
unfolding call_of
made c ns (add o is) m = ap₂ call_of m.0 m.1
made c ns (tell (same a b) x) m = ap₂ call_of m.0 m.1 ∙ ap (tell (same a b)) (sym m.2)
made c ns (tell (differ a b) x) m = ap₂ call_of m.0 m.1 ∙ ap (tell (differ a b)) (sym m.2)
made c ns (must a b) m = ap₂ call_of m.0 m.1
made c ns (why a b x) m = absurd m
made c ns lock m = absurd m
made c ns reopen m = absurd m
made c ns (value p) m = absurd m
made c ns (apply p xs) m = absurd m

-- and stands on an open sheet, which it leaves open
stands : (s : Content) (c : ℕ) (ns : List ℕ) (k : Call) → Makes c ns k → s.locked ≡ false → Stands s k
stands s c ns (add o is) m e = e
stands s c ns (tell (same a b) x) m e = e
stands s c ns (tell (differ a b) x) m e = e
stands s c ns (must a b) m e = tt
stands s c ns (why a b x) m e = tt
stands s c ns lock m e = e
stands s c ns reopen m e = absurd m
stands s c ns (value p) m e = absurd m
stands s c ns (apply p xs) m e = absurd m

cond_open : (b : Bool) (s t : Content) → s.locked ≡ false → t.locked ≡ false → (cond b s t).locked ≡ false
cond_open true s t p q = p
cond_open false s t p q = q

stays_open : (s : Content) (c : ℕ) (ns : List ℕ) (k : Call) (r : Said) → Makes c ns k → s.locked ≡ false → (after s k r).locked ≡ false
stays_open s c ns (add o is) r m e = cond_open (is_refused r) s (with_picture s o is) e e
stays_open s c ns (tell (same a b) x) r m e = cond_open (is_refused r) s (with_entry s (same a b)) e e
stays_open s c ns (tell (differ a b) x) r m e = cond_open (is_refused r) s (with_entry s (differ a b)) e e
stays_open s c ns (must a b) r m e = e
stays_open s c ns (why a b x) r m e = absurd m
stays_open s c ns lock r m e = absurd m
stays_open s c ns reopen r m e = absurd m
stays_open s c ns (value p) r m e = absurd m
stays_open s c ns (apply p xs) r m e = absurd m

after_alike : (s : Content) (k : Call) (r q : Said) → Alike r q → after s k r ≡ after s k q
after_alike s (add o is) r q a = ap (λ (b : Bool). cond b s (with_picture s o is)) (refused_alike r q a)
after_alike s (tell e x) r q a = ap (λ (b : Bool). cond b s (with_entry s e)) (refused_alike r q a)
after_alike s (must x y) r q a = refl
after_alike s (why x y z) r q a = refl
after_alike s lock r q a = refl
after_alike s reopen r q a = refl
after_alike s (value p) r q a = refl
after_alike s (apply p xs) r q a = refl

-- what is reached by a run
pub record Reached (cap : ℕ) (s : Content) : Type 0 where
  pub log : List (Call × Said)
  pub run : Run cap log
  pub holds : leaves empty log ≡ s
  pub unlocked : s.locked ≡ false

reached_proper : (cap : ℕ) (s : Content) → Reached cap s → Proper s.pictures s.entries
reached_proper cap s g = subst (λ (x : Content). Proper x.pictures x.entries) g.holds (run_law cap g.log g.run).0

reached_more : (cap : ℕ) (s s' : Content) (c : ℕ) (ns : List ℕ) (o : Outcome) → Reached cap s → Did cap s c ns o s' → Reached cap s'
reached_more cap s s' c ns o g d =
    let more = call_more_law cap empty g.log d.call (outcome_of o) in
    record {
      log = g.log ++ ((d.call, outcome_of o) ∷ []);
      run = more.0.1 (
        g.run,
        subst (λ (x : Content). Stands x d.call) (sym g.holds) (stands s c ns d.call d.makes g.unlocked),
        subst (λ (x : Content). Answers cap x d.call (outcome_of o)) (sym g.holds) d.answers,
      );
      holds = more.1 ∙ (ap (λ (x : Content). after x d.call (outcome_of o)) g.holds ∙ sym d.leaves);
      unlocked = subst (λ (x : Content). x.locked ≡ false) (sym d.leaves) (stays_open s c ns d.call (outcome_of o) d.makes g.unlocked);
    }

carried_text : (o : Outcome) → reply_text (carried o) ≡ said_text (outcome_of o)
carried_text (Ok a) = refl
carried_text (Err f) = refl

-- a line has one reply, and leaves one sheet
one_did : (cap : ℕ) (s s' s'' : Content) (c : ℕ) (ns : List ℕ) (o q : Outcome) → Reached cap s → Did cap s c ns o s' → Did cap s c ns q s'' →
    (reply_text (carried o) ≡ reply_text (carried q)) × (s' ≡ s'')
one_did cap s s' s'' c ns o q g d e =
    let k : e.call ≡ d.call = sym (made c ns e.call e.makes) ∙ made c ns d.call d.makes in
    let alike = alike_law cap s (reached_proper cap s g) d.call (outcome_of o) (outcome_of q) d.answers (subst (λ (x : Call). Answers cap s x (outcome_of q)) k e.answers) in (
      carried_text o ∙ (said_alike (outcome_of o) (outcome_of q) alike ∙ sym (carried_text q)),
      d.leaves ∙ (after_alike s d.call (outcome_of o) (outcome_of q) alike ∙ (ap (λ (x : Call). after s x (outcome_of q)) (sym k) ∙ sym e.leaves)),
    )

unread_text : (f : LineFault) (n p : ℕ) → line_fault_number f ≡ n → line_fault_detail f ≡ p → fault_text f ≡ codes "no " ++ (decimal n ++ (codes " " ++ decimal p))
unread_text f n p en ep = ap₂ (λ (x y : ℕ). codes "no " ++ (decimal x ++ (codes " " ++ decimal y))) en ep

one_reply : (cap : ℕ) (s s' s'' : Content) (bs : List ℕ) (r q : Reply) → Reached cap s → Replies (Did cap) s bs r s' → Replies (Did cap) s bs q s'' → (reply_text r ≡ reply_text q) × (s' ≡ s'')
one_reply cap s s' s'' bs r q g (inl a) (inl b) =
    let u = one_reading.0 bs a.letter b.letter a.numbers b.numbers a.says b.says in
    let d : Did cap s a.letter a.numbers b.outcome s'' = subst₂ (λ (x : ℕ) (y : List ℕ). Did cap s x y b.outcome s'') (sym u.0) (sym u.1) b.did in
    let h = one_did cap s s' s'' a.letter a.numbers a.outcome b.outcome g a.did d in
    (ap reply_text a.same ∙ (h.0 ∙ sym (ap reply_text b.same)), h.1)
one_reply cap s s' s'' bs r q g (inl a) (inr b) = absurd (one_reading.2 bs a.letter (line_fault_number b.fault) (line_fault_detail b.fault) a.numbers a.says b.misread)
one_reply cap s s' s'' bs r q g (inr a) (inl b) = absurd (one_reading.2 bs b.letter (line_fault_number a.fault) (line_fault_detail a.fault) b.numbers b.says a.misread)
one_reply cap s s' s'' bs r q g (inr a) (inr b) =
    let u = one_reading.1 bs _ _ _ _ a.misread b.misread in
    (ap reply_text a.same ∙ (unread_text a.fault _ _ u.0 u.1 ∙ sym (ap reply_text b.same)), a.still ∙ sym b.still)

reached_reply : (cap : ℕ) (s s' : Content) (bs : List ℕ) (r : Reply) → Reached cap s → Replies (Did cap) s bs r s' → Reached cap s'
reached_reply cap s s' bs r g (inl a) = reached_more cap s s' a.letter a.numbers a.outcome g a.did
reached_reply cap s s' bs r g (inr a) = subst (Reached cap) (sym a.still) g

-- and so has a text
one_body : (cap : ℕ) (s s' s'' : Content) (ls : List (List ℕ)) (out out' : List ℕ) → Reached cap s → Prints (Did cap) s ls out s' → Prints (Did cap) s ls out' s'' → (out ≡ out') × (s' ≡ s'') × Reached cap s'
one_body cap s s' s'' [] out out' g p q = (p.0 ∙ sym q.0, p.1 ∙ sym q.1, subst (Reached cap) (sym p.1) g)
one_body cap s s' s'' (l ∷ ls) out out' g (r, m, rest, rep, is, p) (q, n, rest', rep', is', p') =
    let u = one_reply cap s m n l r q g rep rep' in
    let h = one_body cap m s' s'' ls rest rest' (reached_reply cap s m l r g rep) p (subst (λ (x : Content). Prints (Did cap) x ls rest' s'') (sym u.1) p') in
    (is ∙ (ap₂ (λ (x y : List ℕ). x ++ (10 ∷ y)) u.0 h.0 ∙ sym is'), h.1, h.2)

begun : (cap : ℕ) → Reached cap empty
begun cap = record { log = []; run = tt; holds = refl; unlocked = refl }

pub one_record : OneRecord
one_record cap text out out' p q = go (dec_le (length text) 65536)
  where
    go : Dec (length text ≤ 65536) → out ≡ out'
    go (no n) = p.1 (omega arith) ∙ sym (q.1 (omega arith))
    go (yes l) =
        let a = p.0 l in
        let b = q.0 l in
        let h = one_body cap empty a.end b.end (lines text) a.body b.body (begun cap) a.each b.each in
        let w = reached_proper cap a.end h.2 in
        let law = classes_law a.end.pictures a.end.entries w in
        let k : a.classes ≡ b.classes = law.2 a.classes a.counted ∙ sym (law.2 b.classes (subst (λ (x : Content). Classes x.pictures x.entries b.classes) (sym h.1) b.counted)) in
        a.whole ∙ (ap₂ (λ (x : List ℕ) (y : ℕ). x ++ (codes "classes " ++ (decimal y ++ (10 ∷ [])))) h.0 k ∙ sym b.whole)
