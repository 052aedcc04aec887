use Rattle.std.proofs.Common.{◌≡◌, take, All}
use Rattle.engines.specs.Content.{content, pictures_on, entries_on}
use Rattle.engines.specs.Whole.{Whole}
use Rattle.engines.specs.Values.{Value}
use Rattle.engines.proofs.open.Open.are_values.Given as goal

abbrev pub invariant-loop-x : goal.invariant-loop-x
invariant-loop-x g l =
    Whole g.K.Keeper g.I.Index l.self × (content l.self ≡ content l.initial.self)
    × All (Value (pictures_on l.initial.self) (entries_on l.initial.self)) (take l.x-index l.numbers)
