use Rattle.std.proofs.Common.{◌≡◌, ◌<◌, get_or, length, sym, ap, ◌∙◌, arith}
use Rattle.std.proofs.lemmas.List.{get_or_default}
use Rattle.tables.specs.declared.kinds.Value.TheVariants as values
use Rattle.row_messages.proofs.Written.{chosen_short, off, on, past}
use Rattle.row_messages.proofs.tuples.count_listed.Goals.{then-is_listed, else-is_listed}
use Rattle.row_messages.proofs.tuples.count_listed.Goals as goal

pub overflow_add-count : goal.overflow_add-count
overflow_add-count c = let most = chosen_short c.args.listed.now c.args.row.now in
    let low : c.loop-i.i < length c.args.row.now = omega (arith, c.loop-i-test.true, c.len-i-end.ensures) in
    let x = get_or c.args.row.now c.loop-i.i values.Null in
    let is : x ≡ get_or c.args.row.now c.loop-i.i x = get_or_default c.args.row.now c.loop-i.i values.Null x low in
    let one = ap length (on c.args.listed.now c.args.row.now c.loop-i.i x low is (sym c.is_listed.ensures ∙ c.if-is_listed.true)) in
    omega (arith, c.loop-i.invariant, one, most, c.len-i-end.ensures, c.len-i-end.type_inv)

pub loop-i-preserved : goal.loop-i-preserved
loop-i-preserved c =
    let low : c.loop-i.i < length c.args.row.now = omega (arith, c.loop-i-test.true, c.len-i-end.ensures) in
    let x = get_or c.args.row.now c.loop-i.i values.Null in
    let is : x ≡ get_or c.args.row.now c.loop-i.i x = get_or_default c.args.row.now c.loop-i.i values.Null x low in
    elim c.if-is_listed.branch [
      | then-is_listed w ↦
          let one = ap length (on c.args.listed.now c.args.row.now c.loop-i.i x low is (sym c.is_listed.ensures ∙ w.if-is_listed.true)) in
          omega (arith, one, w.count-is, c.loop-i.invariant)
      | else-is_listed w ↦
          let one = ap length (off c.args.listed.now c.args.row.now c.loop-i.i x low is (sym c.is_listed.ensures ∙ w.if-is_listed.false)) in
          omega (arith, one, w.count-is, c.loop-i.invariant)
    ]

pub returns-clause-value : goal.returns-clause-value
returns-clause-value c =
    let none = ap length (past c.args.listed.now c.args.row.now c.loop-i.i (omega (arith, c.loop-i-test.false, c.len-i-end.ensures))) in
    omega (arith, none, c.loop-i.invariant)

pub returns-clause-few : goal.returns-clause-few
returns-clause-few c = omega (arith, c.loop-i.invariant, chosen_short c.args.listed.now c.args.row.now)
