use Rattle.std.proofs.Common.{sym}
use Rattle.publication.proofs.Standing.{insertion_room}
use Rattle.publication.proofs.selection.Selection.put_insert.Goals as goal

pub put_insertion-requires-clause-room : goal.put_insertion-requires-clause-room
put_insertion-requires-clause-room c = insertion_room c.listed.result.now c.in_ok-table.table.now c.args.row.now c.in_ok-table.ensures.fits (sym c.if-not-takes_ref.ensures) c.requires.short c.args.out.now c.requires.room
