use Rattle.std.proofs.Common.{◌≡◌, ℕ, ◌≤◌, Bool, false, length, get_or, take, Decides, All, sym, refl, ◌∙◌, subst, arith}
use Rattle.std.proofs.lemmas.List.Elements.{All-push, All-get_or}
use Rattle.std.proofs.lemmas.List.{take_more, take_all}
use Rattle.std.proofs.lemmas.Bool.{both_ways}
use Rattle.theory.specs.Calls.{Content}
use Rattle.engines.specs.Content.{content, pictures_on, entries_on}
use Rattle.engines.specs.Values.{Value}
use Rattle.engines.proofs.open.Open.are_values.Goals as goal

-- what is decided of one content is decided of another that is the same
moved : (s t : Content) (x : ℕ) (r : Bool) → t ≡ s → Decides r (Value t.pictures t.entries x) → Decides r (Value s.pictures s.entries x)
moved s t x r e d = subst (λ (u : Content). Decides r (Value u.pictures u.entries x)) e d

pub returns-then-not-is_value : goal.returns-then-not-is_value
returns-then-not-is_value g c =
    let s = c.args.self.now in
    let xs = c.args.numbers.now in
    let i = c.loop-x.x-index in
    let d = moved (content s) (content c.loop-x.self) (get_or xs i 0) c.is_value.result c.loop-x.invariant.1 c.is_value.ensures.answer in
    record {
      whole = c.is_value.ensures.whole;
      answer = (
        (λ e. absurd (both_ways false refl e)),
        λ a. absurd (both_ways c.is_value.result c.if-not-is_value.true (d.1 (All-get_or (Value (pictures_on s) (entries_on s)) xs i 0 c.loop-x-test.true a))),
      );
      same = c.is_value.ensures.same ∙ c.loop-x.invariant.1;
    }

pub loop-x-preserved : goal.loop-x-preserved
loop-x-preserved g c =
    let s = c.args.self.now in
    let xs = c.args.numbers.now in
    let i = c.loop-x.x-index in
    let d = moved (content s) (content c.loop-x.self) (get_or xs i 0) c.is_value.result c.loop-x.invariant.1 c.is_value.ensures.answer in (
      c.is_value.ensures.whole,
      c.is_value.ensures.same ∙ c.loop-x.invariant.1,
      subst (All (Value (pictures_on s) (entries_on s))) (sym (take_more xs i 0 c.loop-x-test.true))
          (All-push (Value (pictures_on s) (entries_on s)) (take i xs) (get_or xs i 0) c.loop-x.invariant.2 (d.0 c.if-not-is_value.false)),
    )

pub returns : goal.returns
returns g c =
    let s = c.args.self.now in
    let xs = c.args.numbers.now in
    let i = c.loop-x.x-index in
    let done : length xs ≤ i = omega arith in
    record {
      whole = c.loop-x.invariant.0;
      answer = ((λ e. subst (All (Value (pictures_on s) (entries_on s))) (take_all i xs done) c.loop-x.invariant.2), λ a. refl);
      same = c.loop-x.invariant.1;
    }
