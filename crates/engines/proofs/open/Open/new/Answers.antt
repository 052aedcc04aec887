use Rattle.std.proofs.Common.{List, [], vec_items, sym, subst, subst₂}
use Rattle.indexes.specs.Meaning.{held}
use Rattle.congruence.specs.declared.picture.Picture.{Picture as Held}
use Rattle.congruence.specs.declared.journal.Join.{Join}
use Rattle.congruence.specs.Waiting.{Working}
use Rattle.engines.specs.declared.entry.Entry.{Entry as Told}
use Rattle.engines.specs.Content.{taken}
use Rattle.engines.specs.Whole.{Rests}
use Rattle.engines.proofs.Telling.{rests_none}
use Rattle.engines.proofs.open.Open.new.Goals as goal

pub returns-clause-whole : goal.returns-clause-whole
returns-clause-whole g c =
    let o = c.in_ok-congruence.congruence in
    let cap = g.K.Keeper.limit in
    let rs = g.K.Keeper.reps o.keeper in
    let m = held (g.I.Index.leads o.index) in
    let e = c.in_ok-congruence.ensures.empty in
    let w = rests_none cap rs m (subst₂ (λ (ps : List Held) (J : List Join). Working rs ps m J) e.0 e.1 c.in_ok-congruence.ensures.works) in
    subst₂ (λ (ps : List Held) (J : List Join). Rests cap rs ps (taken (vec_items c.in_ok-entries.entries)) m J) (sym e.0) (sym e.1)
    (subst (λ (es : List Told). Rests cap rs [] (taken es) m []) (sym c.in_ok-entries.ensures.items) w)
