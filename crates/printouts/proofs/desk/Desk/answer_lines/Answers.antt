use Rattle.std.proofs.Common.{string_bytes, rules}
use Rattle.engines.specs.Content.{content}
use Rattle.printouts.specs.Replies.{Did}
use Rattle.printouts.proofs.Printing.{finish}
use Rattle.printouts.proofs.desk.Desk.answer_lines.Goals as goal

pub returns : goal.returns
returns g c =
    let r = c.loop-rest in
    record {
      whole = r.invariant.0;
      prints = finish (Did g.K.Keeper.limit) (content c.args.self.now.sheet) (content r.self.sheet) c.args.text.now r.rest.now (string_bytes r.out) r.invariant.1 (search rules);
    }
