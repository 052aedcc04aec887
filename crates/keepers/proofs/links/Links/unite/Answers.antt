use Rattle.std.proofs.Common.{◌≡◌, ℕ, List, map, length, vec_items, sym, ap, ◌∙◌, subst, arith}
use Rattle.keepers.specs.declared.link.Link.{Link}
use Rattle.keepers.specs.Meaning.{Upto, rep, moved}
use Rattle.keepers.specs.Links.{parent, root, roots, pictures, Table}
use Rattle.keepers.specs.Reps.{joined_left, joined_right}
use Rattle.keepers.specs.Roots.{root_ends, rep_roots, length-roots}
use Rattle.keepers.specs.Linking.{bounded}
use Rattle.keepers.proofs.links.Links.unite.Goals.{After-halve-b}
use Rattle.keepers.proofs.links.Links.unite.Goals as goal

-- what the walk from x found, by the representatives and the table after both walks
record Walked (rs : List ℕ) (ls : List Link) (x a : ℕ) : Type 0 where
  pub is : a ≡ rep rs x
  pub on : Upto (pictures ls) a
  pub end : parent ls a ≡ a

-- tables with the same roots have the same pictures
on_both : (ls ls' : List Link) (x : ℕ) → Upto (pictures ls) x → roots (pictures ls') ls' ≡ roots (pictures ls) ls → Upto (pictures ls') x
on_both ls ls' x w s =
    let n = length-roots (pictures ls) ls in
    let n' = length-roots (pictures ls') ls' in
    (w.0, omega (arith, w.1, ap length s))

-- the root of x in a table with the same roots
walked : (ls ls' : List Link) (x a : ℕ) → Table (pictures ls') ls' → Upto (pictures ls) x → roots (pictures ls') ls' ≡ roots (pictures ls) ls → a ≡ root (pictures ls) ls x → Walked (roots (pictures ls) ls) ls' x a
walked ls ls' x a t w s e =
    let u = on_both ls ls' x w s in
    let is : a ≡ rep (roots (pictures ls) ls) x = e ∙ sym (rep_roots (pictures ls) ls x w) in
    let z : a ≡ root (pictures ls') ls' x = is ∙ (ap (λ (rs : List ℕ). rep rs x) (sym s) ∙ rep_roots (pictures ls') ls' x u) in
    let h = root_ends (pictures ls') ls' t.rising (bounded (pictures ls') ls' t.low) x u in
    record { is = is; on = subst (Upto (pictures ls')) (sym z) h.0; end = ap (parent ls') z ∙ (h.1 ∙ sym z) }

left : (c : After-halve-b) → Walked (roots (pictures (vec_items c.args.self.now.links)) (vec_items c.args.self.now.links)) (vec_items c.halve-b.new.self.links) c.args.p c.halve-a.result
left c = walked (vec_items c.args.self.now.links) (vec_items c.halve-b.new.self.links) c.args.p c.halve-a.result c.halve-b.new.self.table c.requires.on.0 (c.halve-b.ensures.same ∙ c.halve-a.ensures.same) c.halve-a.ensures.answer

right : (c : After-halve-b) → Walked (roots (pictures (vec_items c.args.self.now.links)) (vec_items c.args.self.now.links)) (vec_items c.halve-b.new.self.links) c.args.q c.halve-b.result
right c =
    let u = on_both (vec_items c.args.self.now.links) (vec_items c.halve-a.new.self.links) c.args.q c.requires.on.1 c.halve-a.ensures.same in
    let w = walked (vec_items c.halve-a.new.self.links) (vec_items c.halve-b.new.self.links) c.args.q c.halve-b.result c.halve-b.new.self.table u c.halve-b.ensures.same c.halve-b.ensures.answer in
    subst (λ (rs : List ℕ). Walked rs (vec_items c.halve-b.new.self.links) c.args.q c.halve-b.result) c.halve-a.ensures.same w

pub halve-b-requires : goal.halve-b-requires
halve-b-requires c = record { on = on_both (vec_items c.args.self.now.links) (vec_items c.halve-a.new.self.links) c.args.q c.requires.on.1 c.halve-a.ensures.same }

pub index-requires : goal.index-requires
index-requires c =
    let w = left (goal.at.index-requires c).After-halve-b in
    omega (arith, w.on.1, c.halve-b.new.self.table.room)

pub index-requires-2 : goal.index-requires-2
index-requires-2 c =
    let w = right (goal.at.index-requires-2 c).After-halve-b in
    omega (arith, w.on.1, c.halve-b.new.self.table.room)

pub returns-then-a-b : goal.returns-then-a-b
returns-then-a-b c =
    let l = left (goal.at.returns-then-a-b c).After-halve-b in
    let r = right (goal.at.returns-then-a-b c).After-halve-b in
    record { did = (sym l.is ∙ (c.if-a-b.true ∙ r.is), c.halve-b.ensures.same ∙ c.halve-a.ensures.same) }

pub link-requires-clause-on : goal.link-requires-clause-on
link-requires-clause-on c = ((right (goal.at.link-requires-clause-on c).After-halve-b).on, (left (goal.at.link-requires-clause-on c).After-halve-b).on)

pub link-requires-clause-ends : goal.link-requires-clause-ends
link-requires-clause-ends c = ((right (goal.at.link-requires-clause-ends c).After-halve-b).end, (left (goal.at.link-requires-clause-ends c).After-halve-b).end)

pub link-requires-else-index-clause-on : goal.link-requires-else-index-clause-on
link-requires-else-index-clause-on c =
    ((left (goal.at.link-requires-else-index-clause-on c).After-halve-b).on, (right (goal.at.link-requires-else-index-clause-on c).After-halve-b).on)

pub link-requires-else-index-clause-ends : goal.link-requires-else-index-clause-ends
link-requires-else-index-clause-ends c =
    ((left (goal.at.link-requires-else-index-clause-ends c).After-halve-b).end, (right (goal.at.link-requires-else-index-clause-ends c).After-halve-b).end)

pub returns-then-index : goal.returns-then-index
returns-then-index c =
    let l = left (goal.at.returns-then-index c).After-halve-b in
    let r = right (goal.at.returns-then-index c).After-halve-b in
    let same = c.halve-b.ensures.same ∙ c.halve-a.ensures.same in
    record { did = joined_right _ _ _ _ _ _ l.is r.is c.if-a-b.false (c.link.ensures.moves ∙ ap (map (moved c.halve-a.result c.halve-b.result)) same) }

pub returns-else-index : goal.returns-else-index
returns-else-index c =
    let l = left (goal.at.returns-else-index c).After-halve-b in
    let r = right (goal.at.returns-else-index c).After-halve-b in
    let same = c.halve-b.ensures.same ∙ c.halve-a.ensures.same in
    record { did = joined_left _ _ _ _ _ _ l.is r.is c.if-a-b.false (c.link-else-index.ensures.moves ∙ ap (map (moved c.halve-b.result c.halve-a.result)) same) }
