use Rattle.copyboth.specs.Server.{SpellsXLogData}
use Rattle.copyboth.specs.XLogData.{XLogDataBody}
use Rattle.client.proofs.Bodies.{no_body, unread_message, passed_on}
use Rattle.client.proofs.reading.word_in.Goals as goal

pub returns-in_default : goal.returns-in_default
returns-in_default c = no_body c.args.body.now c.read_server.result c.in_default.field-0 c.read_server.ensures.only c.in_default.is

pub returns-in_err-message-in-XLogData : goal.returns-in_err-message-in-XLogData
returns-in_err-message-in-XLogData c =
    let body : XLogDataBody = record { start = c.data.inside.start; end = c.data.inside.end; clock = c.data.inside.clock; payload = c.data.inside.payload.now } in
    let spelled : SpellsXLogData c.args.body.now body = rw (c.in-XLogData.is, ← c.data.view_is) at c.in-Ok.ensures.found in
    let unread = unread_message c.args.body.now body c.in_err-message-in-XLogData.field-0.0 spelled c.in_err-message-in-XLogData.ensures in
    passed_on c.args.body.now c.from_residual.result c.in_err-message-in-XLogData.field-0.0 c.from_residual.ensures.1 unread
