-- How far an explainer has followed its journal. Assumes nothing.
use Rattle.std.specs.Prelude.{ℕ, vec_len}
use Rattle.keepers.specs.declared.keeper.Keeper.{Ghosts}
use Rattle.reasons.specs.declared.explainer.Explainer.{Explainer}

-- the number of joins that the explainer has taken
abbrev pub followed : {X : Type 0} {K : Ghosts X} → Explainer X K → ℕ
followed e = vec_len e.forest.hung
