-- Where calls stand, and what they leave. Assumes nothing.
use Rattle.std.proofs.Common.{◌≡◌, ℕ, Bool, true, false, cond, ◌↔◌, List, [], ◌∷◌, sym, refl, ap, subst, arith}
use Rattle.std.proofs.lemmas.Bool.{both_ways}
use Rattle.theory.specs.Sheet.{Picture, Entry}
use Rattle.theory.specs.Calls.{Call, add, tell, must, why, lock, reopen, value, apply, Refusal, Answer, added, joined, noted, told, explained, turned, valued, refused, is_refused, Content, with_picture, with_entry, with_lock, Answers, after}
use Rattle.theory.specs.Leaving.{StandsLaw, RefusalLaw, RefusedLaw, AppendedLaw, AskedLaw, TurnedLaw, LockingLaw, SameAnswersLaw, CallMoreLaw}

pub stands_law : StandsLaw
stands_law s o p a b cells xs e = (
  (λ o. ((o, o, tt, tt, o), ((λ l. both_ways _ o l), (λ l. both_ways _ o l), (λ l. both_ways _ o l)))),
  (λ k. ((tt, tt, k, k, k), ((λ l. both_ways _ l k), (λ l. both_ways _ l k), (λ l. both_ways _ l k)))),
)

pub refusal_law : RefusalLaw
refusal_law r = (is r, (λ x. ap is_refused x.1))
  where
    is : (r : Answer) → is_refused r ≡ true → (f : Refusal) × (r ≡ refused f)
    is (added n m) e = absurd (both_ways false refl e)
    is (joined n j) e = absurd (both_ways false refl e)
    is (noted n) e = absurd (both_ways false refl e)
    is (told b) e = absurd (both_ways false refl e)
    is (explained n) e = absurd (both_ways false refl e)
    is turned e = absurd (both_ways false refl e)
    is (valued v) e = absurd (both_ways false refl e)
    is (refused f) e = (f, refl)

never_turned : (f : Refusal) → ¬ (refused f ≡ turned)
never_turned f e = let z : ◌≡◌ {A = ℕ} 0 1 = cc in omega arith

pub refused_law : RefusedLaw
refused_law cap s (add o is) f h = refl
refused_law cap s (tell e cells) f h = refl
refused_law cap s (must a b) f h = refl
refused_law cap s (why a b cells) f h = refl
refused_law cap s lock f h = absurd (never_turned f h)
refused_law cap s reopen f h = absurd (never_turned f h)
refused_law cap s (value p) f h = refl
refused_law cap s (apply o xs) f h = refl

pub appended_law : AppendedLaw
appended_law s r n = ((λ o is. ap (λ b. cond b s (with_picture s o is)) n), (λ e cells. ap (λ b. cond b s (with_entry s e)) n))

pub asked_law : AskedLaw
asked_law s r o p a b cells xs = (refl, refl, refl, refl)

pub turned_law : TurnedLaw
turned_law s e q r = (refl, refl, refl, ap (with_lock s) (sym e))

-- what add and the entries leave is open where the sheet was
still : (s t : Content) (b : Bool) → s.locked ≡ false → t.locked ≡ false → ¬ ((cond b s t).locked ≡ true)
still s t true h k e = both_ways s.locked h e
still s t false h k e = both_ways t.locked k e

pub locking_law : LockingLaw
locking_law = (refl, only)
  where
    only : (s : Content) (c : Call) (r : Answer) → s.locked ≡ false → (after s c r).locked ≡ true → c ≡ lock
    only s (add o is) r h e = absurd (still s (with_picture s o is) (is_refused r) h h e)
    only s (tell d cells) r h e = absurd (still s (with_entry s d) (is_refused r) h h e)
    only s (must a b) r h e = absurd (both_ways s.locked h e)
    only s (why a b cells) r h e = absurd (both_ways s.locked h e)
    only s lock r h e = refl
    only s reopen r h e = absurd (both_ways false refl e)
    only s (value p) r h e = absurd (both_ways s.locked h e)
    only s (apply o xs) r h e = absurd (both_ways s.locked h e)

-- what depends on pictures and entries alone
pub same_answers_law : SameAnswersLaw
same_answers_law cap s t p e a b cells r = (
  (both (λ P E. Answers cap (sheet P E) (must a b) r)),
  (both (λ P E. Answers cap (sheet P E) (why a b cells) r)),
)
  where
    sheet : List Picture → List Entry → Content
    sheet P E = record { locked = false; pictures = P; entries = E }

    both : (Q : List Picture → List Entry → Type 0) → Q s.pictures s.entries ↔ Q t.pictures t.entries
    both Q = (
      (λ h. subst (λ P. Q P t.entries) p (subst (λ E. Q s.pictures E) e h)),
      (λ h. subst (λ P. Q P s.entries) (sym p) (subst (λ E. Q t.pictures E) (sym e) h)),
    )

pub call_more_law : CallMoreLaw
call_more_law cap s [] c r = (((λ g. (tt, g.0, g.1)), (λ g. (g.1, g.2, tt))), refl)
call_more_law cap s (x ∷ log) c r =
    let h = call_more_law cap (after s x.0 x.1) log c r in (
      ((λ g. let k = h.0.0 g.2 in ((g.0, g.1, k.0), k.1, k.2)), (λ g. (g.0.0, g.0.1, h.0.1 (g.0.2, g.1, g.2)))),
      h.1,
    )
