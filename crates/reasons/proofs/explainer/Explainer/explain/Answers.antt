use Rattle.std.proofs.Common.{◌≡◌, Bool, List, length, sym, ap, ◌∙◌, subst, arith}
use Rattle.theory.specs.Slices.{kept}
use Rattle.congruence.specs.Drawn.{sheet, reasons}
use Rattle.reasons.specs.Marks.{Chosen}
use Rattle.reasons.proofs.Telling.{told_few, told-rest, told}
use Rattle.reasons.proofs.explainer.Explainer.explain.Goals as goal

pub write_chain-requires : goal.write_chain-requires
write_chain-requires g c =
    let js = c.args.asked.now.journal.now in
    let few = told_few js c.deref.result.now c.deref-2.result.now (c.deref-2.ensures.value ∙ c.gather.ensures.items) in
    (omega (arith, few, c.requires.room), omega (arith, few, c.requires.few))

pub overflow_cast-result : goal.overflow_cast-result
overflow_cast-result g c =
    let few = told_few c.args.asked.now.journal.now c.deref.result.now c.deref-2.result.now (c.deref-2.ensures.value ∙ c.gather.ensures.items) in
    omega (arith, few, c.requires.few, ap length c.deref-2.ensures.value, c.len.ensures)

pub returns : goal.returns
returns g c =
    let js = c.args.asked.now.journal.now in
    let bs = c.deref.result.now in
    let ks = c.deref-2.result.now in
    let P = sheet c.args.asked.now.pictures.now in
    let is : ks ≡ kept bs js = c.deref-2.ensures.value ∙ c.gather.ensures.items in
    let many : c.len.result ≡ length ks = omega (arith, ap length c.deref-2.ensures.value, c.len.ensures) in
    let before = c.args.table.now in
    let after = c.write_chain.new.table in
    let ch = c.write_chain.ensures.chained in
    let chosen : Chosen P (reasons js) c.args.asked.now.a c.args.asked.now.b bs =
    subst (λ (z : List Bool). Chosen P (reasons js) c.args.asked.now.a c.args.asked.now.b z) (sym c.deref.ensures.value) c.choose.ensures in
    record {
      few = omega (arith, many, told_few js bs ks is);
      rest = told-rest js bs ks is c.len.result many before after ch;
      explained = told js bs ks is c.len.result many before after ch P c.args.asked.now.a c.args.asked.now.b chosen;
    }
