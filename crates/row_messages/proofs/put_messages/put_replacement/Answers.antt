use Rattle.std.proofs.Common.{[], ◌∷◌, ◌++◌}
use Rattle.pgoutput.specs.declared.messages.insert.TheConstants.{NEW}
use Rattle.pgoutput.specs.declared.messages.update.TheConstants.{UPDATE}
use Rattle.pgoutput.specs.Tuple.{tuple}
use Rattle.pgoutput.specs.Update.{old_if_any}
use Rattle.row_messages.specs.Relations.{listed_items, table_as_published}
use Rattle.row_messages.specs.Tuples.{old_row_of_update, tuple_after}
use Rattle.pqformat.proofs.Writing.{first, left, then}
use Rattle.row_messages.proofs.Written.{then_int32}
use Rattle.row_messages.proofs.put_messages.put_replacement.Goals as goal

pub write_int32-oid-requires : goal.write_int32-oid-requires
write_int32-oid-requires c =
    let old = listed_items c.args.listed.now c.args.old.now in
    let new = listed_items c.args.listed.now c.args.new.now in
    let told = old_if_any (old_row_of_update c.args.table.now.identity (table_as_published c.args.listed.now c.args.table.now) old new) in
    then_int32 0 c.write_byte-kind.result UPDATE c.args.out.now c.write_byte-kind.new.out c.args.table.now.oid (told ++ ((NEW ∷ []) ++ tuple (tuple_after old new))) c.write_byte-kind.ensures c.requires.room

pub put_replaced-replaced-requires-clause-room : goal.put_replaced-replaced-requires-clause-room
put_replaced-replaced-requires-clause-room c = first _ _ _ _ (left _ _ _ _ _ _ c.write_int32-oid.ensures (left _ _ _ _ _ _ c.write_byte-kind.ensures c.requires.room))

pub put_tuple_after-requires-clause-room : goal.put_tuple_after-requires-clause-room
put_tuple_after-requires-clause-room c =
    left _ _ _ _ _ _ c.write_byte-letter.ensures (left _ _ _ _ _ _ c.put_replaced-replaced.ensures (left _ _ _ _ _ _ c.write_int32-oid.ensures (left _ _ _ _ _ _ c.write_byte-kind.ensures c.requires.room)))

pub returns : goal.returns
returns c =
    then _ _ _ _ _ _ _ _ c.write_byte-kind.ensures (then _ _ _ _ _ _ _ _ c.write_int32-oid.ensures (then _ _ _ _ _ _ _ _ c.put_replaced-replaced.ensures (then _ _ _ _ _ _ _ _ c.write_byte-letter.ensures c.put_tuple_after.ensures)))
