use Rattle.std.proofs.Common.{sym}
use Rattle.publication.proofs.Standing.{update_room}
use Rattle.publication.proofs.selection.Selection.put_update.Goals as goal

pub put_update-requires-clause-room : goal.put_update-requires-clause-room
put_update-requires-clause-room c =
    update_room c.listed-listed.result.now c.in_ok-table.table.now c.args.old.now c.in_ok-table.ensures.fits (sym c.if-not-takes_ref.ensures) c.requires.old c.args.new.now (sym c.if-not-takes_ref-2.ensures) c.requires.new c.args.out.now c.requires.room c.passes-old_passes.result c.passes-new_passes.result
