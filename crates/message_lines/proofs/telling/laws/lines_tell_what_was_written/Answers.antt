use Rattle.message_lines.proofs.ReadBack.{begin_reads, commit_reads, message_reads, insert_reads, update_reads, delete_reads, truncate_reads, summary_reads}
use Rattle.message_lines.proofs.telling.laws.lines_tell_what_was_written.Goals as goal

pub returns-clause-begin : goal.returns-clause-begin
returns-clause-begin c = begin_reads

pub returns-clause-commit : goal.returns-clause-commit
returns-clause-commit c = commit_reads

pub returns-clause-message : goal.returns-clause-message
returns-clause-message c = message_reads

pub returns-clause-insert : goal.returns-clause-insert
returns-clause-insert c = insert_reads

pub returns-clause-update : goal.returns-clause-update
returns-clause-update c = update_reads

pub returns-clause-delete : goal.returns-clause-delete
returns-clause-delete c = delete_reads

pub returns-clause-truncate : goal.returns-clause-truncate
returns-clause-truncate c = truncate_reads

pub returns-clause-summary : goal.returns-clause-summary
returns-clause-summary c = summary_reads
