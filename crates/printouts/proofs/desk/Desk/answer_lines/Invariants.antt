use Rattle.std.proofs.Common.{length, string_bytes}
use Rattle.engines.specs.Content.{content}
use Rattle.engines.specs.Whole.{Whole}
use Rattle.printouts.specs.Replies.{Did}
use Rattle.printouts.proofs.Printing.{Awaits}
use Rattle.printouts.proofs.desk.Desk.answer_lines.Given as goal

abbrev pub invariant-loop-rest : goal.invariant-loop-rest
invariant-loop-rest g l = Whole g.K.Keeper g.I.Index l.self.sheet × Awaits (Did g.K.Keeper.limit) (content l.initial.self.sheet) l.text (string_bytes l.out) (content l.self.sheet) l.rest

abbrev pub decreases-loop-rest : goal.decreases-loop-rest
decreases-loop-rest g l = length l.rest
