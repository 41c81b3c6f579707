use Rattle.std.proofs.Common.{length, sym, ap, ◌∙◌, arith}
use Rattle.row_messages.proofs.RelationParts.{at_place}
use Rattle.row_messages.proofs.Written.{chosen_short, off, on, past}
use Rattle.row_messages.proofs.put_relation.count_listed.Goals.{then-is_listed, else-is_listed}
use Rattle.row_messages.proofs.put_relation.count_listed.Goals as goal

pub loop-i-init : goal.loop-i-init
loop-i-init c = record { all = omega arith; few = omega arith }

pub loop-i-preserved : goal.loop-i-preserved
loop-i-preserved c =
    let here = at_place c.args.columns.now c.loop-i.i c.loop-i-test.true in
    elim c.if-is_listed.branch [
      | then-is_listed w ↦
          let one = ap length (on c.args.listed.now c.args.columns.now c.loop-i.i here.0 c.loop-i-test.true here.1 (sym c.is_listed.ensures ∙ w.if-is_listed.true)) in
          record { all = omega (arith, one, w.count-is, c.loop-i.invariant.all); few = omega (arith, w.count-is, c.loop-i.invariant.few) }
      | else-is_listed w ↦
          let one = ap length (off c.args.listed.now c.args.columns.now c.loop-i.i here.0 c.loop-i-test.true here.1 (sym c.is_listed.ensures ∙ w.if-is_listed.false)) in
          record { all = omega (arith, one, w.count-is, c.loop-i.invariant.all); few = omega (arith, w.count-is, c.loop-i.invariant.few) }
    ]

pub returns-clause-value : goal.returns-clause-value
returns-clause-value c =
    let none = ap length (past c.args.listed.now c.args.columns.now c.loop-i.i (omega arith)) in
    omega (arith, none, c.loop-i.invariant.all)

pub returns-clause-few : goal.returns-clause-few
returns-clause-few c = omega (arith, c.loop-i.invariant.all, chosen_short c.args.listed.now c.args.columns.now)
