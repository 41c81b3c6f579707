use Rattle.std.proofs.Common.{sym, subst}
use Rattle.pgoutput.specs.Update.{old_if_any}
use Rattle.row_messages.specs.Relations.{listed_items, table_as_published}
use Rattle.pqformat.specs.Writing.{FitsRoom, Writes}
use Rattle.row_messages.specs.Tuples.{old_row_of_update}
use Rattle.pqformat.proofs.Writing.{left, then}
use Rattle.row_messages.proofs.put_messages.put_replaced.Goals as goal

pub put_tuple-requires-clause-room : goal.put_tuple-requires-clause-room
put_tuple-requires-clause-room c =
    let t = table_as_published c.args.listed.now c.args.table.now in
    left _ _ _ _ _ _ c.write_byte-letter-in-Full.ensures
    (subst (λ i. FitsRoom c.args.at c.args.out.now (old_if_any (old_row_of_update i t (listed_items c.args.listed.now c.args.old.now) (listed_items c.args.listed.now c.args.new.now)))) c.in-Full.is c.requires.room)

pub returns-in-Full : goal.returns-in-Full
returns-in-Full c =
    let t = table_as_published c.args.listed.now c.args.table.now in
    subst (λ i. Writes c.args.at c.put_tuple.result c.args.out.now c.put_tuple.new.out (old_if_any (old_row_of_update i t (listed_items c.args.listed.now c.args.old.now) (listed_items c.args.listed.now c.args.new.now)))) (sym c.in-Full.is)
    (then _ _ _ _ _ _ _ _ c.write_byte-letter-in-Full.ensures c.put_tuple.ensures)
