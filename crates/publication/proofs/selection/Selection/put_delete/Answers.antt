use Rattle.std.proofs.Common.{sym}
use Rattle.publication.proofs.Standing.{gone_room}
use Rattle.publication.proofs.selection.Selection.put_delete.Goals as goal

pub put_deletion-requires-clause-room : goal.put_deletion-requires-clause-room
put_deletion-requires-clause-room c = gone_room c.listed.result.now c.in_ok-table.table.now c.args.old.now c.in_ok-table.ensures.fits (sym c.if-not-takes_ref.ensures) c.requires.short c.args.out.now c.requires.room
