-- What each line begins with.
use Rattle.std.proofs.Common.{◌≡◌, ℕ, Bool, true, false, refl, subst, sym}
use Rattle.std.specs.Str.{is_utf8}
use Rattle.pgoutput.specs.declared.messages.begin.Begin.{Begin}
use Rattle.pgoutput.specs.declared.messages.commit.Commit.{Commit}
use Rattle.pgoutput.specs.declared.messages.delete.Delete.{Delete}
use Rattle.pgoutput.specs.declared.messages.insert.Insert.{Insert}
use Rattle.pgoutput.specs.declared.messages.message.Message.{Message}
use Rattle.pgoutput.specs.declared.messages.relation.Relation.{Relation}
use Rattle.pgoutput.specs.declared.messages.update.Update.{Update}
use Rattle.json.specs.Json.{Json}
use Rattle.json.specs.Print.{escape_byte, print_from}
use Rattle.message_lines.specs.Line.{line_of}
use Rattle.message_lines.specs.Changes.{delete_json, insert_json, truncate_json, update_json}
use Rattle.message_lines.specs.Marks.{begin_json, commit_json, message_json, summary_json}
use Rattle.message_lines.specs.Fronts.{begins_one, is_note_line, is_change_line, Tells}
use Rattle.message_lines.proofs.Ends.{said, message_is}

pub begin_tells : (m : Begin) → Tells (line_of (begin_json m)) true false false
unfolding begins_one is_note_line is_change_line print_from escape_byte
begin_tells m = record { first = refl; note = refl; change = refl }

pub commit_tells : (m : Commit) → Tells (line_of (commit_json m)) false false false
unfolding begins_one is_note_line is_change_line print_from escape_byte
commit_tells m = record { first = refl; note = refl; change = refl }

said_note : (is_text : Bool) (m : Message) → Tells (line_of (said false is_text m)) true true false
unfolding begins_one is_note_line is_change_line print_from escape_byte
said_note is_text m = record { first = refl; note = refl; change = refl }

said_message : (is_text : Bool) (m : Message) → Tells (line_of (said true is_text m)) false false false
unfolding begins_one is_note_line is_change_line print_from escape_byte
said_message is_text m = record { first = refl; note = refl; change = refl }

pub note_tells : (m : Message) → m.is_transactional ≡ false → Tells (line_of (message_json m)) true true false
note_tells m is = subst (λ (j : Json). Tells (line_of j) true true false) (sym (message_is m false is)) (said_note (is_utf8 m.content) m)

pub message_tells : (m : Message) → m.is_transactional ≡ true → Tells (line_of (message_json m)) false false false
message_tells m is = subst (λ (j : Json). Tells (line_of j) false false false) (sym (message_is m true is)) (said_message (is_utf8 m.content) m)

pub insert_tells : (lsn : ℕ) (r : Relation) (m : Insert) → Tells (line_of (insert_json lsn r m)) false false true
unfolding begins_one is_note_line is_change_line print_from escape_byte
insert_tells lsn r m = record { first = refl; note = refl; change = refl }

pub update_tells : (lsn : ℕ) (r : Relation) (m : Update) → Tells (line_of (update_json lsn r m)) false false true
unfolding begins_one is_note_line is_change_line print_from escape_byte
update_tells lsn r m = record { first = refl; note = refl; change = refl }

pub delete_tells : (lsn : ℕ) (r : Relation) (m : Delete) → Tells (line_of (delete_json lsn r m)) false false true
unfolding begins_one is_note_line is_change_line print_from escape_byte
delete_tells lsn r m = record { first = refl; note = refl; change = refl }

pub truncate_tells : (lsn : ℕ) (r : Relation) → Tells (line_of (truncate_json lsn r)) false false true
unfolding begins_one is_note_line is_change_line print_from escape_byte
truncate_tells lsn r = record { first = refl; note = refl; change = refl }

pub summary_tells : (transactions changes position : ℕ) → Tells (line_of (summary_json transactions changes position)) true false false
unfolding begins_one is_note_line is_change_line print_from escape_byte
summary_tells transactions changes position = record { first = refl; note = refl; change = refl }
