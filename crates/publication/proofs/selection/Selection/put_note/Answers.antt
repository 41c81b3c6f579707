use Rattle.std.proofs.Common.{◌+◌, arith, drop, length, take}
use Rattle.std.proofs.lemmas.List.{length-take}
use Rattle.row_messages.specs.declared.room.TheConstants.{MAX_MESSAGE_LENGTH}
use Rattle.publication.specs.Logged.{note_message}
use Rattle.publication.proofs.Fields.{told_of}
use Rattle.publication.proofs.LoggedMessages.{note_fits}
use Rattle.publication.proofs.Room.{room_within}
use Rattle.publication.proofs.Standing.{coded_values}
use Rattle.row_messages.proofs.Written.{put_in}
use Rattle.publication.proofs.selection.Selection.put_note.Goals as goal

pub put_note_tagged-requires : goal.put_note_tagged-requires
put_note_tagged-requires c =
    let size = length-take MAX_MESSAGE_LENGTH c.args.out.now in
    let max = room_within (length c.in_ok-tag.fields.now + 1) in
    (omega (arith, size, c.requires, max), omega (arith, size))

pub returns-clause-message : goal.returns-clause-message
returns-clause-message c = λ change is.
    put_in c.put_note_tagged.result (take MAX_MESSAGE_LENGTH c.args.out.now) c.put_note_tagged.new.out (drop MAX_MESSAGE_LENGTH c.args.out.now) (note_message c.args.self.now c.args.position change)
    (c.put_note_tagged.ensures.told change (told_of c.args.body.now c.in_ok-tag.tag.now c.in_ok-tag.fields.now change c.in_ok-tag.ensures.cases.0 is))

pub returns-clause-fits : goal.returns-clause-fits
returns-clause-fits c = λ change m spelled is. note_fits c.args.self.now c.args.position change m (omega (arith, c.ranges.position.fits)) (coded_values change spelled.in_range) is

pub returns-in_err-tag-clause-fits : goal.returns-in_err-tag-clause-fits
returns-in_err-tag-clause-fits c = λ change m spelled is. note_fits c.args.self.now c.args.position change m (omega (arith, c.ranges.position.fits)) (coded_values change spelled.in_range) is
