use Rattle.message_lines.proofs.Starts.{begin_tells, commit_tells, note_tells, message_tells, insert_tells, update_tells, delete_tells, truncate_tells, summary_tells}
use Rattle.message_lines.proofs.telling.laws.lines_begin_with_what_they_tell.Goals as goal

pub returns-clause-begin : goal.returns-clause-begin
returns-clause-begin c = begin_tells

pub returns-clause-commit : goal.returns-clause-commit
returns-clause-commit c = commit_tells

pub returns-clause-note : goal.returns-clause-note
returns-clause-note c = note_tells

pub returns-clause-message : goal.returns-clause-message
returns-clause-message c = message_tells

pub returns-clause-insert : goal.returns-clause-insert
returns-clause-insert c = insert_tells

pub returns-clause-update : goal.returns-clause-update
returns-clause-update c = update_tells

pub returns-clause-delete : goal.returns-clause-delete
returns-clause-delete c = delete_tells

pub returns-clause-truncate : goal.returns-clause-truncate
returns-clause-truncate c = truncate_tells

pub returns-clause-summary : goal.returns-clause-summary
returns-clause-summary c = summary_tells
