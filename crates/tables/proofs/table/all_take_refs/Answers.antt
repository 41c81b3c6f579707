use Rattle.std.proofs.Common.{◌+◌, sym, ap, arith, ◌∙◌, ◌&&◌, drop}
use Rattle.std.specs.List.{list_all, zip}
use Rattle.std.specs.Option.{option_map}
use Rattle.tables.specs.Kinds.{value_of}
use Rattle.tables.specs.Tables.{fits_column}
use Rattle.tables.proofs.Sides.{step, there}
use Rattle.tables.proofs.table.all_take_refs.Goals as goal

pub loop-i-preserved : goal.loop-i-preserved
loop-i-preserved c =
    let one = step (λ p. fits_column p.0 p.1) c.args.columns.now c.args.row.now c.loop-i.i c.index-columns-i.result (value_of c.in-Some.value) c.loop-i-test.true c.index-columns-i.is (sym (c.in-Some.ensures)) in
    c.loop-i.invariant ∙ one ∙ ap (λ b. b && list_all (λ p. fits_column p.0 p.1) (zip (drop (c.loop-i.i + 1) c.args.columns.now) (drop (c.loop-i.i + 1) c.args.row.now))) (sym (c.if-takes_ref.ensures))

pub returns-in_default : goal.returns-in_default
returns-in_default c =
    let one = step (λ p. fits_column p.0 p.1) c.args.columns.now c.args.row.now c.loop-i.i c.index-columns-i.result (value_of c.in-Some.value) c.loop-i-test.true c.index-columns-i.is (sym (c.in-Some.ensures)) in
    sym (c.loop-i.invariant ∙ one ∙ ap (λ b. b && list_all (λ p. fits_column p.0 p.1) (zip (drop (c.loop-i.i + 1) c.args.columns.now) (drop (c.loop-i.i + 1) c.args.row.now))) (sym (c.if-takes_ref.ensures)))

pub returns-in_default-2 : goal.returns-in_default-2
returns-in_default-2 c = absurd (omega (arith, c.loop-i-test.true, c.requires, there c.args.row.now c.loop-i.i (sym c.get.ensures ∙ ap (option_map value_of) c.in_default.is)))
