use Rattle.message_lines.proofs.Ends.{commit_ends, note_ends, message_goes_on, begin_goes_on, insert_goes_on, update_goes_on, delete_goes_on, truncate_goes_on, summary_goes_on}
use Rattle.message_lines.proofs.telling.laws.lines_tell_where_they_end.Goals as goal

pub returns-clause-commit : goal.returns-clause-commit
returns-clause-commit c = commit_ends

pub returns-clause-note : goal.returns-clause-note
returns-clause-note c = note_ends

pub returns-clause-message : goal.returns-clause-message
returns-clause-message c = message_goes_on

pub returns-clause-begin : goal.returns-clause-begin
returns-clause-begin c = begin_goes_on

pub returns-clause-insert : goal.returns-clause-insert
returns-clause-insert c = insert_goes_on

pub returns-clause-update : goal.returns-clause-update
returns-clause-update c = update_goes_on

pub returns-clause-delete : goal.returns-clause-delete
returns-clause-delete c = delete_goes_on

pub returns-clause-truncate : goal.returns-clause-truncate
returns-clause-truncate c = truncate_goes_on

pub returns-clause-summary : goal.returns-clause-summary
returns-clause-summary c = summary_goes_on
