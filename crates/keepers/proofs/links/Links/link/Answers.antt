use Rattle.std.proofs.Common.{◌≡◌, ℕ, ◌+◌, ◌≤◌, ◌<◌, List, map, length, vec_len, vec_capacity, vec_items, slice_index_or, slice_set, sym, refl, ap, subst, arith, length-set, Vec, Global}
use Rattle.std.proofs.lemmas.List.{get_or_read_under}
use Rattle.keepers.specs.declared.link.Link.{Link}
use Rattle.keepers.specs.Meaning.{moved}
use Rattle.keepers.specs.Links.{bare, parent, roots, pictures, Table}
use Rattle.keepers.specs.Linking.{led, raised, link_plain, link_raised}
use Rattle.keepers.proofs.links.Links.link.Goals.{Joined-index-above, then-index-above, else-index-above}
use Rattle.keepers.proofs.links.Links.link.Goals as goal

-- ls' is the table ls once lost is linked to heir
record Linked (ls ls' : List Link) (heir lost : ℕ) : Type 0 where
  pub table : Table (pictures ls') ls'
  pub moves : roots (pictures ls') ls' ≡ map (moved lost heir) (roots (pictures ls) ls)

-- v is whole, and needs only the link of lost
record Ready (ls : List Link) (v : Vec Link Global) (heir lost : ℕ) : Type 0 where
  pub room : 1025 ≤ vec_capacity v
  pub few : vec_len v ≤ 1025
  pub linked : (k : Link) → k ≡ slice_index_or (vec_items v) lost k → Linked ls (slice_set (vec_items v) lost (record { parent = heir; rank = k.rank })) heir lost

-- the link of lost is written over k, the link that stood there
written : (ls now : List Link) (heir lost : ℕ) → lost < length now → length now ≡ length ls → Table (pictures ls) (led now lost heir) × (roots (pictures ls) (led now lost heir) ≡ map (moved lost heir) (roots (pictures ls) ls)) → (k : Link) → k ≡ slice_index_or now lost k → Linked ls (slice_set now lost (record { parent = heir; rank = k.rank })) heir lost
written ls now heir lost l same f k is =
    let size : pictures (led now lost heir) ≡ pictures ls = simp length-set (omega (arith, same)) in
    let g = subst (λ (m : ℕ). Table m (led now lost heir) × (roots m (led now lost heir) ≡ map (moved lost heir) (roots (pictures ls) ls))) (sym size) f in
    let all : Linked ls (led now lost heir) heir lost = record { table = g.0; moves = g.1 } in
    subst (λ (h : Link). Linked ls (slice_set now lost (record { parent = heir; rank = h.rank })) heir lost) (sym (get_or_read_under now lost _ k bare is l refl)) all

-- where the rank of heir is raised first
raises : (ls : List Link) (heir lost v p : ℕ) → lost < length ls → p ≡ parent ls heir → Table (pictures ls) (led (raised ls heir v) lost heir) × (roots (pictures ls) (led (raised ls heir v) lost heir) ≡ map (moved lost heir) (roots (pictures ls) ls)) → (k : Link) → k ≡ slice_index_or (slice_set ls heir (record { parent = p; rank = v })) lost k → Linked ls (slice_set (slice_set ls heir (record { parent = p; rank = v })) lost (record { parent = heir; rank = k.rank })) heir lost
raises ls heir lost v p l e f =
    let same : length (raised ls heir v) ≡ length ls = length-set ls heir _ in
    subst (λ (q : ℕ). (k : Link) → k ≡ slice_index_or (slice_set ls heir (record { parent = q; rank = v })) lost k → Linked ls (slice_set (slice_set ls heir (record { parent = q; rank = v })) lost (record { parent = heir; rank = k.rank })) heir lost)
    (sym e) (written ls (raised ls heir v) heir lost (omega (arith, l, same)) same f)

ready : (c : Joined-index-above) → Ready (vec_items c.args.self.now.links) c.if-index-above.self.1.0 c.args.heir c.args.lost
ready c =
    let s = c.args.self.now in
    let ls = vec_items s.links in
    let n : ℕ = pictures ls in
    let h : ℕ = c.args.heir in
    let o : ℕ = c.args.lost in
    let r = c.requires in
    let t = s.table in
    let lh : h < length ls = omega (arith, r.on.0.1, t.room) in
    let lo : o < length ls = omega (arith, r.on.1.1, t.room) in
    let ro = ap (λ (k : Link). k.rank) (get_or_read_under ls o _ c.index.result.now bare c.index.ensures lo refl) in
    let rh = ap (λ (k : Link). k.rank) (get_or_read_under ls h _ c.index-2.result.now bare c.index-2.ensures lh refl) in
    elim c.if-index-above.branch [
      | then-index-above w ↦
          let eh = ap (λ (k : Link). k.parent) (get_or_read_under ls h _ w.index_mut.result.now bare w.index_mut.ensures.value lh refl) in
          subst (λ k. Ready ls k.1.0 h o) (sym w.self-is)
          (record {
            room = s.room;
            few = s.few;
            linked = raises ls h o (c.index.result.now.rank + 1) w.index_mut.result.now.parent lo eh
                (link_raised n ls t h o r.on.0 r.on.1 r.ends.0 r.ends.1 r.apart (c.index.result.now.rank + 1) (ap (λ (x : ℕ). x + 1) ro) (omega (arith, rh, w.if-index-above.true)));
          })
      | else-index-above w ↦
          subst (λ k. Ready ls k.1.0 h o) (sym w.self-is)
          (record {
            room = s.room;
            few = s.few;
            linked = written ls ls h o lo refl (link_plain n ls t h o r.on.0 r.on.1 r.ends.0 r.ends.1 r.apart (omega (arith, ro, rh, w.if-index-above.false)));
          })
    ]

pub invariant_of-self : goal.invariant_of-self
invariant_of-self c =
    let k = ready (goal.at.invariant_of-self c).Joined-index-above in
    record { room = k.room; few = k.few; table = (k.linked c.index_mut-2.result.now c.index_mut-2.ensures.value).table }

pub returns : goal.returns
returns c = record { moves = ((ready (goal.at.returns c).Joined-index-above).linked c.index_mut-2.result.now c.index_mut-2.ensures.value).moves }
