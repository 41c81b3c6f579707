use Rattle.tables.specs.declared.changes.change.Change.TheVariants as changes
use Rattle.tables.proofs.Lengths.{short_message}
use Rattle.txlog.proofs.Calls.{change_fits}
use Rattle.txlog.proofs.noting.push.Goals as goal

pub push_note-requires-clause-fits : goal.push_note-requires-clause-fits
push_note-requires-clause-fits g c =
    change_fits c.args.log.now.records 0 (changes.Message c.args.message) c.in_ok-logged.field-0 (short_message c.args.message c.requires.message) c.requires.fits c.in_ok-logged.ensures
