use Rattle.std.proofs.Common.{◌≡◌, ℕ, ◌≢◌, ◌⊎◌, List, vec_items, refl, ap, ◌∙◌, subst, inl, inr}
use Rattle.keepers.specs.Meaning.{rep, Unites}
use Rattle.indexes.specs.Meaning.{held}
use Rattle.congruence.proofs.Moves.{lost_moves}
use Rattle.congruence.proofs.Fusing.{merged}
use Rattle.congruence.proofs.merging.merge.Goals.{then-heir-a, else-heir-a}
use Rattle.congruence.proofs.merging.merge.Goals as goal

-- the union, from the classes before
united_from : (l r : ℕ) (rs ts us rs' : List ℕ) → ts ≡ rs → us ≡ ts → Unites l r us rs' → Unites l r rs rs'
united_from l r rs ts us rs' e h u = subst (λ (x : List ℕ). Unites l r x rs') (h ∙ e) u

pub returns-clause-working : goal.returns-clause-working
returns-clause-working g c w =
    let k = g.K.Keeper in
    let j = c.args.join in
    let rs = k.reps c.args.k.now in
    let rs' = k.reps c.unite.new.k in
    let u = united_from j.left j.right rs _ _ rs' c.root-a.ensures.same c.root-b.ensures.same c.unite.ensures in
    let a = c.requires.apart in
    let ea : c.root-a.result ≡ rep rs j.left = c.root-a.ensures.answer in
    let eb : c.root-b.result ≡ rep rs j.right = c.root-b.ensures.answer ∙ ap (λ (x : List ℕ). rep x j.right) c.root-a.ensures.same in
    let way : ((c.root-heir.result ≡ c.root-a.result) × (c.if-heir-a.lost ≡ c.root-b.result)) ⊎ ((c.root-heir.result ≢ c.root-a.result) × (c.if-heir-a.lost ≡ c.root-a.result)) =
    elim c.if-heir-a.branch [ then-heir-a w ↦ inl (w.if-heir-a.true, w.lost-is) | else-heir-a w ↦ inr (w.if-heir-a.false, w.lost-is) ] in
    let mv = lost_moves j.left j.right c.root-a.result c.root-b.result c.root-heir.result c.if-heir-a.lost rs rs' a.left_on a.right_on a.apart u ea eb c.root-heir.ensures.answer way in
    let seen = g.S.Tracked.seen in
    let ps = seen c.args.pictures.now in
    let ws = seen c.withdraw_all.new.pictures in
    let ew = c.withdraw_all.ensures in
    let m' = held (g.I.Index.leads c.withdraw_all.new.index) in
    merged c.if-heir-a.lost c.root-heir.result rs rs' (k.reps c.root-heir.new.k) ps ps ws (held (g.I.Index.leads c.args.index.now)) m' (vec_items c.args.journal.now) (vec_items c.push_reserved.new.self) j w a u mv refl ew.sheet ew.rows ew.posted
    ws refl c.root-heir.ensures.same c.push_reserved.ensures.items
