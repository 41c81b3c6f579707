use Rattle.std.proofs.Common.{◌≡◌, ◌<◌, ◌++◌, map, take, get_or, length, refl, sym, ap, subst, ◌∙◌, arith}
use Rattle.std.specs.List.{flat_map, zip}
use Rattle.std.proofs.lemmas.List.{get_or_default}
use Rattle.tables.specs.declared.column.Column.{Column}
use Rattle.tables.specs.declared.kinds.Value.{Value}
use Rattle.tables.specs.declared.kinds.Value.TheVariants as values
use Rattle.pgoutput.specs.Tuple.{cell, tuple}
use Rattle.row_messages.specs.Relations.{listed_items}
use Rattle.pqformat.specs.Writing.{FitsRoom, Writes}
use Rattle.row_messages.proofs.Choosing.{key_cell_of, beside, paired, unpaired, zip_chosen}
use Rattle.row_messages.proofs.Written.{begun, chosen_second, fits, skipped, told, tuple_room, written}
use Rattle.row_messages.proofs.tuples.put_key_tuple.Goals.{then-is_listed, else-is_listed}
use Rattle.row_messages.proofs.tuples.put_key_tuple.Goals as goal

pub write_int16-end-requires : goal.write_int16-end-requires
write_int16-end-requires c = tuple_room c.args.at c.args.out.now (map key_cell_of (listed_items c.args.listed.now (zip c.args.columns.now c.args.row.now))) (subst (λ cs. FitsRoom c.args.at c.args.out.now (tuple cs)) (ap (map key_cell_of) (zip_chosen c.args.listed.now c.args.columns.now c.args.row.now)) c.requires.room)

pub loop-i-init : goal.loop-i-init
loop-i-init c = record {
  part = begun key_cell_of c.args.listed.now (zip c.args.columns.now c.args.row.now) c.args.at c.write_int16-end.result c.count_listed.result c.args.out.now c.write_int16-end.new.out (subst (λ cs. FitsRoom c.args.at c.args.out.now (tuple cs)) (ap (map key_cell_of) (zip_chosen c.args.listed.now c.args.columns.now c.args.row.now)) c.requires.room) (c.count_listed.ensures.value ∙ chosen_second c.args.listed.now c.args.columns.now c.args.row.now c.requires.same) c.write_int16-end.ensures;
  same = refl;
}

pub put_key_cell-end-requires : goal.put_key_cell-end-requires
put_key_cell-end-requires c =
    let test : c.loop-i.i < length c.args.columns.now = omega (arith, c.loop-i-test.true) in
    let low : c.loop-i.i < length (zip c.args.columns.now c.args.row.now) = paired c.args.columns.now c.args.row.now c.loop-i.i test c.requires.same in
    let col = c.index-columns-i.result in
    let b = get_or c.args.row.now c.loop-i.i values.Null in
    let x : Column × Value = (col, b) in
    let is_b : b ≡ get_or c.args.row.now c.loop-i.i b = get_or_default c.args.row.now c.loop-i.i values.Null b (omega (arith, test, c.requires.same)) in
    let is = beside c.args.columns.now c.args.row.now c.loop-i.i col b test c.requires.same c.index-columns-i.is is_b in
    let whole = take c.write_int16-end.result c.write_int16-end.new.out ++ flat_map cell (map key_cell_of (listed_items c.args.listed.now (zip c.args.columns.now c.args.row.now))) in
    let there = fits key_cell_of c.args.listed.now (zip c.args.columns.now c.args.row.now) whole c.loop-i.i c.loop-i.end c.loop-i.out x low is c.loop-i.invariant.part (sym c.is_listed.ensures ∙ c.if-is_listed.true) in
    subst (λ v. FitsRoom c.loop-i.end c.loop-i.out (cell (key_cell_of (col, v)))) (sym c.value_in-value.ensures) there

pub loop-i-preserved : goal.loop-i-preserved
loop-i-preserved c =
    let whole = take c.write_int16-end.result c.write_int16-end.new.out ++ flat_map cell (map key_cell_of (listed_items c.args.listed.now (zip c.args.columns.now c.args.row.now))) in
    elim c.if-is_listed.branch [
      | then-is_listed w ↦
          let test : c.loop-i.i < length c.args.columns.now = omega (arith, c.loop-i-test.true) in
          let low : c.loop-i.i < length (zip c.args.columns.now c.args.row.now) = paired c.args.columns.now c.args.row.now c.loop-i.i test c.requires.same in
          let col = c.index-columns-i.result in
          let b = get_or c.args.row.now c.loop-i.i values.Null in
          let x : Column × Value = (col, b) in
          let is_b : b ≡ get_or c.args.row.now c.loop-i.i b = get_or_default c.args.row.now c.loop-i.i values.Null b (omega (arith, test, c.requires.same)) in
          let is = beside c.args.columns.now c.args.row.now c.loop-i.i col b test c.requires.same c.index-columns-i.is is_b in
          let put = subst (λ (v : Value). Writes c.loop-i.end w.put_key_cell-end.result c.loop-i.out w.put_key_cell-end.new.out (cell (key_cell_of (col, v)))) c.value_in-value.ensures w.put_key_cell-end.ensures in
          record {
            part = rw (w.out-is, w.end-is) (written key_cell_of c.args.listed.now (zip c.args.columns.now c.args.row.now) whole c.loop-i.i c.loop-i.end c.loop-i.out x low is c.loop-i.invariant.part w.put_key_cell-end.result w.put_key_cell-end.new.out (sym c.is_listed.ensures ∙ w.if-is_listed.true) put);
            same = ap length w.out-is ∙ put.same ∙ c.loop-i.invariant.same;
          }
      | else-is_listed w ↦
          let test : c.loop-i.i < length c.args.columns.now = omega (arith, c.loop-i-test.true) in
          let low : c.loop-i.i < length (zip c.args.columns.now c.args.row.now) = paired c.args.columns.now c.args.row.now c.loop-i.i test c.requires.same in
          let col = c.index-columns-i.result in
          let b = get_or c.args.row.now c.loop-i.i values.Null in
          let x : Column × Value = (col, b) in
          let is_b : b ≡ get_or c.args.row.now c.loop-i.i b = get_or_default c.args.row.now c.loop-i.i values.Null b (omega (arith, test, c.requires.same)) in
          let is = beside c.args.columns.now c.args.row.now c.loop-i.i col b test c.requires.same c.index-columns-i.is is_b in
          record {
            part = rw (w.out-is, w.end-is) (skipped key_cell_of c.args.listed.now (zip c.args.columns.now c.args.row.now) whole c.loop-i.i c.loop-i.end c.loop-i.out x low is c.loop-i.invariant.part (sym c.is_listed.ensures ∙ w.if-is_listed.false));
            same = ap length w.out-is ∙ c.loop-i.invariant.same;
          }
    ]

pub returns : goal.returns
returns c =
    let all = told key_cell_of c.args.listed.now (zip c.args.columns.now c.args.row.now) c.args.at c.write_int16-end.result c.count_listed.result c.args.out.now c.write_int16-end.new.out (subst (λ cs. FitsRoom c.args.at c.args.out.now (tuple cs)) (ap (map key_cell_of) (zip_chosen c.args.listed.now c.args.columns.now c.args.row.now)) c.requires.room) (c.count_listed.ensures.value ∙ chosen_second c.args.listed.now c.args.columns.now c.args.row.now c.requires.same) c.write_int16-end.ensures c.loop-i.i c.loop-i.end c.loop-i.out (unpaired c.args.columns.now c.args.row.now c.loop-i.i (omega (arith, c.loop-i-test.false))) c.loop-i.invariant.part c.loop-i.invariant.same in
    subst (λ cs. Writes c.args.at c.loop-i.end c.args.out.now c.loop-i.out (tuple cs)) (sym (ap (map key_cell_of) (zip_chosen c.args.listed.now c.args.columns.now c.args.row.now))) all
