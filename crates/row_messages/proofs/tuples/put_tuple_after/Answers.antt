use Rattle.std.proofs.Common.{◌≡◌, ◌<◌, ◌++◌, map, take, get_or, length, refl, sym, ap, subst, ◌∙◌, arith}
use Rattle.std.specs.List.{flat_map, zip}
use Rattle.std.proofs.lemmas.List.{get_or_default}
use Rattle.tables.specs.declared.kinds.Value.{Value}
use Rattle.tables.specs.declared.kinds.Value.TheVariants as values
use Rattle.tables.specs.Kinds.{value_of}
use Rattle.pgoutput.specs.Tuple.{cell, tuple}
use Rattle.row_messages.specs.Relations.{listed_items}
use Rattle.pqformat.specs.Writing.{FitsRoom, Writes}
use Rattle.row_messages.proofs.Choosing.{after_cell, beside, paired, unpaired, zip_chosen}
use Rattle.row_messages.proofs.Written.{begun, chosen_alike, fits, pair_is, skipped, told, tuple_room, written}
use Rattle.row_messages.proofs.tuples.put_tuple_after.Goals.{then-is_listed, else-is_listed}
use Rattle.row_messages.proofs.tuples.put_tuple_after.Goals as goal

pub write_int16-end-requires : goal.write_int16-end-requires
write_int16-end-requires c = tuple_room c.args.at c.args.out.now (map after_cell (listed_items c.args.listed.now (zip c.args.old.now c.args.new.now))) (subst (λ cs. FitsRoom c.args.at c.args.out.now (tuple cs)) (ap (map after_cell) (zip_chosen c.args.listed.now c.args.old.now c.args.new.now)) c.requires.room)

pub loop-i-init : goal.loop-i-init
loop-i-init c = record {
  part = begun after_cell c.args.listed.now (zip c.args.old.now c.args.new.now) c.args.at c.write_int16-end.result c.count_listed.result c.args.out.now c.write_int16-end.new.out (subst (λ cs. FitsRoom c.args.at c.args.out.now (tuple cs)) (ap (map after_cell) (zip_chosen c.args.listed.now c.args.old.now c.args.new.now)) c.requires.room) (c.count_listed.ensures.value ∙ chosen_alike c.args.listed.now c.args.old.now c.args.new.now c.requires.same) c.write_int16-end.ensures;
  same = refl;
}

pub put_cell_after-end-requires : goal.put_cell_after-end-requires
put_cell_after-end-requires c =
    let test : c.loop-i.i < length c.args.old.now = omega (arith, c.loop-i-test.true, c.len-i-end.ensures) in
    let low : c.loop-i.i < length (zip c.args.old.now c.args.new.now) = paired c.args.old.now c.args.new.now c.loop-i.i test c.requires.same in
    let a = get_or c.args.old.now c.loop-i.i values.Null in
    let b = get_or c.args.new.now c.loop-i.i values.Null in
    let x : Value × Value = (a, b) in
    let is_b : b ≡ get_or c.args.new.now c.loop-i.i b = get_or_default c.args.new.now c.loop-i.i values.Null b (omega (arith, test, c.requires.same)) in
    let is = beside c.args.old.now c.args.new.now c.loop-i.i a b test c.requires.same (get_or_default c.args.old.now c.loop-i.i values.Null a test) is_b in
    let whole = take c.write_int16-end.result c.write_int16-end.new.out ++ flat_map cell (map after_cell (listed_items c.args.listed.now (zip c.args.old.now c.args.new.now))) in
    let there = fits after_cell c.args.listed.now (zip c.args.old.now c.args.new.now) whole c.loop-i.i c.loop-i.end c.loop-i.out x low is c.loop-i.invariant.part (sym c.is_listed.ensures ∙ c.if-is_listed.true) in
    subst (λ (v : Value × Value). FitsRoom c.loop-i.end c.loop-i.out (cell (after_cell v))) (pair_is a (value_of c.value_in-before.result) b (value_of c.value_in-value.result) (sym c.value_in-before.ensures) (sym c.value_in-value.ensures)) there

pub loop-i-preserved : goal.loop-i-preserved
loop-i-preserved c =
    let whole = take c.write_int16-end.result c.write_int16-end.new.out ++ flat_map cell (map after_cell (listed_items c.args.listed.now (zip c.args.old.now c.args.new.now))) in
    elim c.if-is_listed.branch [
      | then-is_listed w ↦
          let test : c.loop-i.i < length c.args.old.now = omega (arith, c.loop-i-test.true, c.len-i-end.ensures) in
          let low : c.loop-i.i < length (zip c.args.old.now c.args.new.now) = paired c.args.old.now c.args.new.now c.loop-i.i test c.requires.same in
          let a = get_or c.args.old.now c.loop-i.i values.Null in
          let b = get_or c.args.new.now c.loop-i.i values.Null in
          let x : Value × Value = (a, b) in
          let is_b : b ≡ get_or c.args.new.now c.loop-i.i b = get_or_default c.args.new.now c.loop-i.i values.Null b (omega (arith, test, c.requires.same)) in
          let is = beside c.args.old.now c.args.new.now c.loop-i.i a b test c.requires.same (get_or_default c.args.old.now c.loop-i.i values.Null a test) is_b in
          let put = subst (λ (v : Value × Value). Writes c.loop-i.end w.put_cell_after-end.result c.loop-i.out w.put_cell_after-end.new.out (cell (after_cell v))) (pair_is (value_of c.value_in-before.result) a (value_of c.value_in-value.result) b c.value_in-before.ensures c.value_in-value.ensures) w.put_cell_after-end.ensures in
          record {
            part = rw (w.out-is, w.end-is) (written after_cell c.args.listed.now (zip c.args.old.now c.args.new.now) whole c.loop-i.i c.loop-i.end c.loop-i.out x low is c.loop-i.invariant.part w.put_cell_after-end.result w.put_cell_after-end.new.out (sym c.is_listed.ensures ∙ w.if-is_listed.true) put);
            same = ap length w.out-is ∙ put.same ∙ c.loop-i.invariant.same;
          }
      | else-is_listed w ↦
          let test : c.loop-i.i < length c.args.old.now = omega (arith, c.loop-i-test.true, c.len-i-end.ensures) in
          let low : c.loop-i.i < length (zip c.args.old.now c.args.new.now) = paired c.args.old.now c.args.new.now c.loop-i.i test c.requires.same in
          let a = get_or c.args.old.now c.loop-i.i values.Null in
          let b = get_or c.args.new.now c.loop-i.i values.Null in
          let x : Value × Value = (a, b) in
          let is_b : b ≡ get_or c.args.new.now c.loop-i.i b = get_or_default c.args.new.now c.loop-i.i values.Null b (omega (arith, test, c.requires.same)) in
          let is = beside c.args.old.now c.args.new.now c.loop-i.i a b test c.requires.same (get_or_default c.args.old.now c.loop-i.i values.Null a test) is_b in
          record {
            part = rw (w.out-is, w.end-is) (skipped after_cell c.args.listed.now (zip c.args.old.now c.args.new.now) whole c.loop-i.i c.loop-i.end c.loop-i.out x low is c.loop-i.invariant.part (sym c.is_listed.ensures ∙ w.if-is_listed.false));
            same = ap length w.out-is ∙ c.loop-i.invariant.same;
          }
    ]

pub returns : goal.returns
returns c =
    let all = told after_cell c.args.listed.now (zip c.args.old.now c.args.new.now) c.args.at c.write_int16-end.result c.count_listed.result c.args.out.now c.write_int16-end.new.out (subst (λ cs. FitsRoom c.args.at c.args.out.now (tuple cs)) (ap (map after_cell) (zip_chosen c.args.listed.now c.args.old.now c.args.new.now)) c.requires.room) (c.count_listed.ensures.value ∙ chosen_alike c.args.listed.now c.args.old.now c.args.new.now c.requires.same) c.write_int16-end.ensures c.loop-i.i c.loop-i.end c.loop-i.out (unpaired c.args.old.now c.args.new.now c.loop-i.i (omega (arith, c.loop-i-test.false, c.len-i-end.ensures))) c.loop-i.invariant.part c.loop-i.invariant.same in
    subst (λ cs. Writes c.args.at c.loop-i.end c.args.out.now c.loop-i.out (tuple cs)) (sym (ap (map after_cell) (zip_chosen c.args.listed.now c.args.old.now c.args.new.now))) all
