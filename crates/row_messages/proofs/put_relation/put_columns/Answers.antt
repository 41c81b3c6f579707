use Rattle.std.proofs.Common.{◌++◌, length, sym, take, ◌∙◌, arith}
use Rattle.row_messages.proofs.RelationParts.{all_told, at_place, columns_from, name_at, skipped, written}
use Rattle.row_messages.proofs.put_relation.put_columns.Goals.{then-is_listed, else-is_listed}
use Rattle.row_messages.proofs.put_relation.put_columns.Goals as goal

pub put_column-end-requires-clause-name : goal.put_column-end-requires-clause-name
put_column-end-requires-clause-name c = name_at c.args.columns.now c.loop-i.i c.index-columns-i.result c.loop-i-test.true c.index-columns-i.is c.requires.names

pub loop-i-preserved : goal.loop-i-preserved
loop-i-preserved c =
    let columns = c.args.columns.now in
    let whole = take c.args.at c.args.out.now ++ columns_from c.args.identity c.args.listed.now columns 0 in
    elim c.if-is_listed.branch [
      | then-is_listed w ↦ rw (w.out-is, w.end-is) (written c.args.identity c.args.listed.now columns c.loop-i.i c.loop-i.end c.loop-i.out whole (length c.args.out.now) w.index-columns-i.result c.loop-i-test.true w.index-columns-i.is
          c.loop-i.invariant w.put_column-end.result w.put_column-end.new.out (sym c.is_listed.ensures ∙ w.if-is_listed.true) w.put_column-end.ensures.written w.put_column-end.ensures.short)
      | else-is_listed w ↦
          let here = at_place columns c.loop-i.i c.loop-i-test.true in
          rw (w.out-is, w.end-is) (skipped c.args.identity c.args.listed.now columns c.loop-i.i c.loop-i.end c.loop-i.out whole (length c.args.out.now) here.0 c.loop-i-test.true here.1 c.loop-i.invariant (sym c.is_listed.ensures ∙ w.if-is_listed.false))
    ]

pub returns : goal.returns
returns c = all_told c.args.identity c.args.listed.now c.args.columns.now c.loop-i.i c.args.at c.loop-i.end c.args.out.now c.loop-i.out (omega arith) (omega (arith, c.requires.room)) c.loop-i.invariant
