use Rattle.std.proofs.Common.{◌+◌, length, arith, sym}
use Rattle.tables.specs.Refs.{message_of}
use Rattle.publication.proofs.Fields.{message_size}
use Rattle.publication.proofs.LoggedMessages.{told_room, told_within}
use Rattle.publication.proofs.Room.{less_room}
use Rattle.publication.proofs.selection.Selection.put_logged.Goals as goal

pub put_message-requires : goal.put_message-requires
put_message-requires c =
    let m = message_of c.in_ok-message.message in
    let size = message_size c.args.fields.now (λ i. omega (arith, c.type_inv.fields i)) m c.in_ok-message.ensures.found in
    told_room c.args.is_transactional c.args.position m c.args.out.now (sym c.if-not-fits_log.ensures)
    (less_room (7 + length m.prefix + length m.content) (length c.args.fields.now + 1) c.args.out.now (omega (arith, size)) c.requires)

pub returns-clause-short : goal.returns-clause-short
returns-clause-short c =
    omega (arith, c.put_message.ensures.ends, told_within c.args.is_transactional c.args.position (message_of c.in_ok-message.message) (sym c.if-not-fits_log.ensures))
