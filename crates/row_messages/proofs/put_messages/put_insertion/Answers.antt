use Rattle.std.proofs.Common.{[], ◌∷◌, ◌++◌}
use Rattle.pgoutput.specs.declared.messages.insert.TheConstants.{INSERT, NEW}
use Rattle.pgoutput.specs.Tuple.{tuple}
use Rattle.row_messages.specs.Relations.{listed_items}
use Rattle.row_messages.specs.Tuples.{tuple_of}
use Rattle.pqformat.proofs.Writing.{left, then}
use Rattle.row_messages.proofs.Written.{then_int32}
use Rattle.row_messages.proofs.put_messages.put_insertion.Goals as goal

pub write_int32-oid-requires : goal.write_int32-oid-requires
write_int32-oid-requires c =
    then_int32 0 c.write_byte-kind.result INSERT c.args.out.now c.write_byte-kind.new.out c.args.table.now.oid ((NEW ∷ []) ++ tuple (tuple_of (listed_items c.args.listed.now c.args.row.now))) c.write_byte-kind.ensures c.requires.room

pub put_tuple-requires-clause-room : goal.put_tuple-requires-clause-room
put_tuple-requires-clause-room c =
    left _ _ _ _ _ _ c.write_byte-letter.ensures (left _ _ _ _ _ _ c.write_int32-oid.ensures (left _ _ _ _ _ _ c.write_byte-kind.ensures c.requires.room))

pub returns : goal.returns
returns c = then _ _ _ _ _ _ _ _ c.write_byte-kind.ensures (then _ _ _ _ _ _ _ _ c.write_int32-oid.ensures (then _ _ _ _ _ _ _ _ c.write_byte-letter.ensures c.put_tuple.ensures))
