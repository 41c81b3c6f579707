use Rattle.std.proofs.Common.{◌≡◌, List, Some, ap, subst, sym}
use Rattle.tables.specs.declared.column.Column.{Column}
use Rattle.pqformat.specs.Writing.{FitsRoom}
use Rattle.row_messages.specs.Relations.{listed_items, table_as_published}
use Rattle.row_messages.specs.Tuples.{key_tuple_of, old_by, tuple_of}
use Rattle.pgoutput.specs.Tuple.{tuple}
use Rattle.pgoutput.specs.declared.parts.old_tuple.OldTuple.TheVariants.{Key, Full}
use Rattle.pgoutput.specs.declared.messages.delete.TheConstants.{DELETE}
use Rattle.pgoutput.specs.declared.parts.old_tuple.TheConstants.{KEY, OLD}
use Rattle.row_messages.proofs.Written.{after_head, deletion_room, head_room}
use Rattle.row_messages.proofs.put_messages.put_deletion.Goals as goal

pub put_head-letter-requires : goal.put_head-letter-requires
put_head-letter-requires c =
    let t = table_as_published c.args.listed.now c.args.table.now in
    let row = listed_items c.args.listed.now c.args.old.now in
    let is : old_by t.identity t row ≡ Some (Key (key_tuple_of t.columns row)) = ap (λ i. old_by i t row) c.in-Default.is in
    head_room c.args.out.now DELETE t.oid KEY (tuple (key_tuple_of t.columns row)) (deletion_room t row c.args.out.now (Key (key_tuple_of t.columns row)) is c.requires.room)

pub put_key_tuple-requires-clause-room : goal.put_key_tuple-requires-clause-room
put_key_tuple-requires-clause-room c =
    let t = table_as_published c.args.listed.now c.args.table.now in
    let row = listed_items c.args.listed.now c.args.old.now in
    let is : old_by t.identity t row ≡ Some (Key (key_tuple_of t.columns row)) = ap (λ i. old_by i t row) c.in-Default.is in
    let there = after_head c.args.out.now c.put_head-letter.new.out c.put_head-letter.result DELETE t.oid KEY (tuple (key_tuple_of t.columns row)) c.put_head-letter.ensures (deletion_room t row c.args.out.now (Key (key_tuple_of t.columns row)) is c.requires.room) in
    subst (λ (columns : List Column). FitsRoom c.put_head-letter.result c.put_head-letter.new.out (tuple (key_tuple_of (listed_items c.args.listed.now columns) row))) (sym c.as_slice-columns.ensures) there

pub put_head-letter-requires-in-Full : goal.put_head-letter-requires-in-Full
put_head-letter-requires-in-Full c =
    let t = table_as_published c.args.listed.now c.args.table.now in
    let row = listed_items c.args.listed.now c.args.old.now in
    let is : old_by t.identity t row ≡ Some (Full (tuple_of row)) = ap (λ i. old_by i t row) c.in-Full.is in
    head_room c.args.out.now DELETE t.oid OLD (tuple (tuple_of row)) (deletion_room t row c.args.out.now (Full (tuple_of row)) is c.requires.room)

pub put_tuple-requires-clause-room : goal.put_tuple-requires-clause-room
put_tuple-requires-clause-room c =
    let t = table_as_published c.args.listed.now c.args.table.now in
    let row = listed_items c.args.listed.now c.args.old.now in
    let is : old_by t.identity t row ≡ Some (Full (tuple_of row)) = ap (λ i. old_by i t row) c.in-Full.is in
    after_head c.args.out.now c.put_head-letter-in-Full.new.out c.put_head-letter-in-Full.result DELETE t.oid OLD (tuple (tuple_of row)) c.put_head-letter-in-Full.ensures (deletion_room t row c.args.out.now (Full (tuple_of row)) is c.requires.room)
