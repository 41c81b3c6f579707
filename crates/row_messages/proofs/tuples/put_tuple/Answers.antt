use Rattle.std.proofs.Common.{◌≡◌, ◌<◌, ◌++◌, take, get_or, length, refl, sym, ap, subst, ◌∙◌, arith}
use Rattle.std.specs.List.{flat_map}
use Rattle.std.proofs.lemmas.List.{get_or_default}
use Rattle.tables.specs.declared.kinds.Value.{Value}
use Rattle.tables.specs.declared.kinds.Value.TheVariants as values
use Rattle.pgoutput.specs.Tuple.{cell}
use Rattle.row_messages.specs.Relations.{listed_items}
use Rattle.pqformat.specs.Writing.{FitsRoom, Writes}
use Rattle.row_messages.specs.Kinds.{cell_of}
use Rattle.row_messages.specs.Tuples.{tuple_of}
use Rattle.row_messages.proofs.Written.{begun, fits, skipped, told, tuple_room, written}
use Rattle.row_messages.proofs.tuples.put_tuple.Goals.{then-is_listed, else-is_listed}
use Rattle.row_messages.proofs.tuples.put_tuple.Goals as goal

pub write_int16-end-requires : goal.write_int16-end-requires
write_int16-end-requires c = tuple_room c.args.at c.args.out.now (tuple_of (listed_items c.args.listed.now c.args.row.now)) c.requires.room

pub loop-i-init : goal.loop-i-init
loop-i-init c = record {
  part = begun cell_of c.args.listed.now c.args.row.now c.args.at c.write_int16-end.result c.count_listed.result c.args.out.now c.write_int16-end.new.out c.requires.room c.count_listed.ensures.value c.write_int16-end.ensures;
  same = refl;
}

pub put_cell-end-requires : goal.put_cell-end-requires
put_cell-end-requires c =
    let low : c.loop-i.i < length c.args.row.now = omega (arith, c.loop-i-test.true, c.len-i-end.ensures) in
    let x = get_or c.args.row.now c.loop-i.i values.Null in
    let is : x ≡ get_or c.args.row.now c.loop-i.i x = get_or_default c.args.row.now c.loop-i.i values.Null x low in
    let whole = take c.write_int16-end.result c.write_int16-end.new.out ++ flat_map cell (tuple_of (listed_items c.args.listed.now c.args.row.now)) in
    let P : Value → Type 0 = λ v. FitsRoom c.loop-i.end c.loop-i.out (cell (cell_of v)) in
    subst P (sym c.value_in.ensures) (fits cell_of c.args.listed.now c.args.row.now whole c.loop-i.i c.loop-i.end c.loop-i.out x low is c.loop-i.invariant.part (sym c.is_listed.ensures ∙ c.if-is_listed.true))

pub loop-i-preserved : goal.loop-i-preserved
loop-i-preserved c =
    let low : c.loop-i.i < length c.args.row.now = omega (arith, c.loop-i-test.true, c.len-i-end.ensures) in
    let x = get_or c.args.row.now c.loop-i.i values.Null in
    let is : x ≡ get_or c.args.row.now c.loop-i.i x = get_or_default c.args.row.now c.loop-i.i values.Null x low in
    let whole = take c.write_int16-end.result c.write_int16-end.new.out ++ flat_map cell (tuple_of (listed_items c.args.listed.now c.args.row.now)) in
    elim c.if-is_listed.branch [
      | then-is_listed w ↦
          let P : Value → Type 0 = λ v. Writes c.loop-i.end w.put_cell-end.result c.loop-i.out w.put_cell-end.new.out (cell (cell_of v)) in
          let put : P x = subst P w.value_in.ensures w.put_cell-end.ensures in
          record {
            part = rw (w.out-is, w.end-is) (written cell_of c.args.listed.now c.args.row.now whole c.loop-i.i c.loop-i.end c.loop-i.out x low is c.loop-i.invariant.part w.put_cell-end.result w.put_cell-end.new.out (sym c.is_listed.ensures ∙ w.if-is_listed.true) put);
            same = ap length w.out-is ∙ put.same ∙ c.loop-i.invariant.same;
          }
      | else-is_listed w ↦ record {
        part = rw (w.out-is, w.end-is) (skipped cell_of c.args.listed.now c.args.row.now whole c.loop-i.i c.loop-i.end c.loop-i.out x low is c.loop-i.invariant.part (sym c.is_listed.ensures ∙ w.if-is_listed.false));
        same = ap length w.out-is ∙ c.loop-i.invariant.same;
      }
    ]

pub returns : goal.returns
returns c =
    told cell_of c.args.listed.now c.args.row.now c.args.at c.write_int16-end.result c.count_listed.result c.args.out.now c.write_int16-end.new.out c.requires.room c.count_listed.ensures.value c.write_int16-end.ensures
    c.loop-i.i c.loop-i.end c.loop-i.out (omega (arith, c.loop-i-test.false, c.len-i-end.ensures)) c.loop-i.invariant.part c.loop-i.invariant.same
