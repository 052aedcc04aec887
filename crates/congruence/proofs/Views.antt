-- One picture changed of those that are held. Assumes nothing.
use Rattle.std.proofs.Common.{◌≡◌, ℕ, ◌<◌, List, map, length, get_or, set, ap, ◌∙◌}
use Rattle.std.proofs.Math.Seq.{map-set_same}
use Rattle.std.proofs.lemmas.List.{get_or_default}
use Rattle.congruence.specs.declared.picture.Picture.{Picture as Held}
use Rattle.congruence.specs.Drawn.{held_at, nothing}

-- the picture at place i, whatever is read behind the last one
pub held_is : (ps : List Held) (i : ℕ) → i < length ps → held_at ps i ≡ get_or ps i (held_at ps i)
held_is ps i h = get_or_default ps i nothing (held_at ps i) h

-- what stays of each picture where it stays of the one at place i
pub kept_set : {Y : Type 0} (f : Held → Y) (ps qs : List Held) (i : ℕ) → i < length ps → qs ≡ set ps i (held_at qs i) → f (held_at qs i) ≡ f (held_at ps i) → map f qs ≡ map f ps
kept_set f ps qs i h only e = ap (map f) only ∙ map-set_same f ps i (held_at qs i) (held_at ps i) (e ∙ ap f (held_is ps i h))
