use Rattle.txlog.proofs.Messages.{message-rows, note-rows}
use Rattle.txlog.proofs.transactions.rowless.a_message_changes_no_row.Goals as goal

pub returns-clause-message : goal.returns-clause-message
returns-clause-message c s xid prefix content h is = message-rows s xid prefix content h is

pub returns-clause-note : goal.returns-clause-note
returns-clause-note c s prefix content = note-rows s prefix content
