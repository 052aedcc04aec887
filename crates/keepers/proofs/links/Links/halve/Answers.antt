use Rattle.std.proofs.Common.{◌≡◌, ℕ, ◌≢◌, List, vec_items, slice_index_or, slice_set, sym, refl, ap, ◌∙◌, subst, arith, length-set}
use Rattle.std.proofs.lemmas.List.{get_or_read_under}
use Rattle.keepers.specs.declared.link.Link.{Link}
use Rattle.keepers.specs.Meaning.{Upto}
use Rattle.keepers.specs.Links.{bare, parent, root, roots, pictures, Table}
use Rattle.keepers.specs.Roots.{climb_stays, root_follows}
use Rattle.keepers.specs.Linking.{bounded, led, far_on, skip_root, skip_roots, skip_table}
use Rattle.keepers.proofs.links.Links.halve.Goals as goal

-- what a turn leaves: ls' with m pictures, where x leads to v, two links on
record Skips (m : ℕ) (ls ls' : List Link) (x v : ℕ) : Type 0 where
  pub size : m ≡ pictures ls
  pub table : Table m ls'
  pub on : Upto m v
  pub same : roots m ls' ≡ roots (pictures ls) ls
  pub end : root m ls' v ≡ root (pictures ls) ls x

-- a turn that reads the link a of x, the link b where that leads, and writes over the link d of x
skips : (ls : List Link) (t : Table (pictures ls) ls) (x : ℕ) (a b d : Link) → Upto (pictures ls) x → a.parent ≢ x → a ≡ slice_index_or ls x a → b ≡ slice_index_or ls a.parent b → d ≡ slice_index_or ls x d → Skips (pictures (slice_set ls x (record { parent = b.parent; rank = d.rank }))) ls (slice_set ls x (record { parent = b.parent; rank = d.rank })) x b.parent
skips ls t x a b d w ne ea eb ed =
    let n : ℕ = pictures ls in
    let up : a.parent ≡ parent ls x = ap (λ (k : Link). k.parent) (get_or_read_under ls x _ a bare ea (omega arith) refl) in
    let on = (t.rising x w).0 in
    let far : b.parent ≡ parent ls (parent ls x) = ap (λ (k : Link). k.parent) (get_or_read_under ls a.parent _ b bare eb (omega (arith, on.1, up)) refl) ∙ ap (parent ls) up in
    let here : d ≡ slice_index_or ls x bare = get_or_read_under ls x _ d bare ed (omega arith) refl in
    let two : parent ls x ≢ x = λ e. ne (up ∙ e) in
    let f = root_follows n ls t.rising (bounded n ls t.low) in
    let there = far_on n ls t x w two in
    let all : Skips n ls (led ls x (parent ls (parent ls x))) x (parent ls (parent ls x)) = record {
      size = refl;
      table = skip_table n ls t x w two;
      on = there;
      same = skip_roots n ls t x w two;
      end = skip_root n ls t x w two (parent ls (parent ls x)) there ∙ sym (f.step x w ∙ f.step (parent ls x) on);
    } in
    let new = slice_set ls x (record { parent = b.parent; rank = d.rank }) in
    let size : pictures new ≡ n = simp length-set refl in
    subst (λ (m : ℕ). Skips m ls new x b.parent) (sym size)
    (subst (λ (v : ℕ). Skips n ls (slice_set ls x (record { parent = v; rank = d.rank })) x v) (sym far)
    (subst (λ (k : Link). Skips n ls (slice_set ls x (record { parent = parent ls (parent ls x); rank = k.rank })) x (parent ls (parent ls x))) (sym here) all))

pub returns-then-up-x-clause-answer : goal.returns-then-up-x-clause-answer
returns-then-up-x-clause-answer c =
    let ls = vec_items c.loop-x.self.links in
    let i = c.loop-x.invariant in
    let x : ℕ = c.loop-x.x in
    let t = c.loop-x.self.table in
    let r = ap (λ (k : Link). k.parent) (get_or_read_under ls x _ c.index.result.now bare c.index.ensures (omega (arith, i.on.1, t.room)) refl) in
    sym (climb_stays ls (pictures ls) x (sym r ∙ c.if-up-x.true)) ∙ i.end

pub invariant_of-self : goal.invariant_of-self
invariant_of-self c =
    let s = c.loop-x.self in
    let i = c.loop-x.invariant in
    let k = skips (vec_items s.links) s.table c.loop-x.x c.index.result.now c.index-in-loop-x.result.now c.index_mut.result.now i.on c.if-up-x.false c.index.ensures c.index-in-loop-x.ensures c.index_mut.ensures.value in
    record { room = s.room; few = s.few; table = k.table }

pub loop-x-preserved : goal.loop-x-preserved
loop-x-preserved c =
    let i = c.loop-x.invariant in
    let s = c.loop-x.self in
    let k = skips (vec_items s.links) s.table c.loop-x.x c.index.result.now c.index-in-loop-x.result.now c.index_mut.result.now i.on c.if-up-x.false c.index.ensures c.index-in-loop-x.ensures c.index_mut.ensures.value in
    record { size = k.size ∙ i.size; on = k.on; same = k.same ∙ i.same; end = k.end ∙ i.end }
