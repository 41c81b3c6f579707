-- Which lines end a transaction, and where.
use Rattle.std.proofs.Common.{◌≡◌, ℕ, ◌<◌, ◌^◌, Bool, true, false, Option, Some, None, option_and_then, refl, ap, ◌∙◌}
use Rattle.std.specs.Prelude.{FitsSigned, codes}
use Rattle.std.specs.Int.{w64}
use Rattle.std.specs.Str.{is_utf8}
use Rattle.pgoutput.specs.declared.messages.begin.Begin.{Begin}
use Rattle.pgoutput.specs.declared.messages.commit.Commit.{Commit}
use Rattle.pgoutput.specs.declared.messages.delete.Delete.{Delete}
use Rattle.pgoutput.specs.declared.messages.insert.Insert.{Insert}
use Rattle.pgoutput.specs.declared.messages.message.Message.{Message}
use Rattle.pgoutput.specs.declared.parts.old_tuple.OldTuple.{OldTuple}
use Rattle.pgoutput.specs.declared.messages.relation.Relation.{Relation}
use Rattle.pgoutput.specs.declared.messages.update.Update.{Update}
use Rattle.json.specs.Json.{Json, boolean, string, object, no_members, member, document}
use Rattle.replcmd.specs.Position.{position_text}
use Rattle.replcmd.specs.Reading.{position_of}
use Rattle.replcmd.proofs.Halves.{printed_is_read}
use Rattle.replcmd.proofs.Places.{position_again}
use Rattle.message_lines.specs.declared.parts.told_values.ToldValues.TheVariants.{Whole}
use Rattle.message_lines.specs.Line.{text_of}
use Rattle.message_lines.specs.Rows.{AreKinds, row_json}
use Rattle.message_lines.specs.Changes.{change_members, delete_json, insert_json, old_members, truncate_json, update_json}
use Rattle.message_lines.specs.Marks.{begin_json, commit_json, content_key, content_text, message_json, summary_json}
use Rattle.message_lines.specs.Ending.{behind, end_in, end_of}
use Rattle.message_lines.proofs.ReadBack.{begin_reads, commit_reads, message_reads, insert_reads, update_reads, delete_reads, truncate_reads, summary_reads}

-- a line ends what the value in it does
of_value : (j : Json) (o : Option ℕ) → document (text_of j) ≡ Some j → end_in j ≡ o → end_of (text_of j) ≡ o
of_value j o reads is = ap (λ (d : Option Json). option_and_then end_in d) reads ∙ is

written : (position : ℕ) → position < 2 ^ 64 → position_of (position_text position) ≡ Some position
written position lt = position_again (position_text position) position (printed_is_read position lt)

commit_end : (m : Commit) → end_in (commit_json m) ≡ position_of (position_text m.end)
unfolding end_in
commit_end m = refl

pub commit_ends : (m : Commit) → m.end < 2 ^ 64 → FitsSigned w64 m.time → end_of (text_of (commit_json m)) ≡ Some m.end
commit_ends m lt time = of_value (commit_json m) (Some m.end) (commit_reads m time) (commit_end m ∙ written m.end lt)

-- ---- A message, whether its content is a text or not.

abbrev pub said : (is_transactional is_text : Bool) → Message → Json
said is_transactional is_text m = object (member (codes "action") (string (codes "M")) (member (codes "transactional") (boolean is_transactional) (member (codes "lsn") (string (position_text m.position)) (member (codes "prefix") (string m.prefix) (member (content_key is_text) (string (content_text is_text m.content)) no_members)))))

note_end : (is_text : Bool) (m : Message) → end_in (said false is_text m) ≡ option_and_then behind (position_of (position_text m.position))
unfolding end_in
note_end true m = refl
note_end false m = refl

message_end : (is_text : Bool) (m : Message) → end_in (said true is_text m) ≡ None
unfolding end_in
message_end true m = refl
message_end false m = refl

pub message_is : (m : Message) (is_transactional : Bool) → m.is_transactional ≡ is_transactional → message_json m ≡ said is_transactional (is_utf8 m.content) m
message_is m is_transactional is = ap (λ (b : Bool). said b (is_utf8 m.content) m) is

pub note_ends : (m : Message) → m.is_transactional ≡ false → m.position < 2 ^ 64 → end_of (text_of (message_json m)) ≡ behind m.position
note_ends m is lt =
    of_value (message_json m) (behind m.position) (message_reads m)
    (ap end_in (message_is m false is) ∙ note_end (is_utf8 m.content) m ∙ ap (λ (o : Option ℕ). option_and_then behind o) (written m.position lt))

pub message_goes_on : (m : Message) → m.is_transactional ≡ true → end_of (text_of (message_json m)) ≡ None
message_goes_on m is = of_value (message_json m) None (message_reads m) (ap end_in (message_is m true is) ∙ message_end (is_utf8 m.content) m)

-- ---- The others.

pub begin_goes_on : (m : Begin) → m.xid < 2 ^ 32 → FitsSigned w64 m.time → end_of (text_of (begin_json m)) ≡ None
unfolding end_in
begin_goes_on m xid time = of_value (begin_json m) None (begin_reads m xid time) refl

pub insert_goes_on : (lsn : ℕ) (r : Relation) (m : Insert) → AreKinds r.columns → end_of (text_of (insert_json lsn r m)) ≡ None
unfolding end_in
insert_goes_on lsn r m kinds = of_value (insert_json lsn r m) None (insert_reads lsn r m kinds) refl

changed : (lsn : ℕ) (r : Relation) (row : Json) (o : Option OldTuple) → end_in (object (change_members (codes "U") lsn r (member (codes "columns") row (old_members r o)))) ≡ None
unfolding end_in
changed lsn r row None = refl
changed lsn r row (Some o) = refl

pub update_goes_on : (lsn : ℕ) (r : Relation) (m : Update) → AreKinds r.columns → end_of (text_of (update_json lsn r m)) ≡ None
update_goes_on lsn r m kinds = of_value (update_json lsn r m) None (update_reads lsn r m kinds) (changed lsn r (row_json Whole r m.new) m.old)

pub delete_goes_on : (lsn : ℕ) (r : Relation) (m : Delete) → AreKinds r.columns → end_of (text_of (delete_json lsn r m)) ≡ None
unfolding end_in
delete_goes_on lsn r m kinds = of_value (delete_json lsn r m) None (delete_reads lsn r m kinds) refl

pub truncate_goes_on : (lsn : ℕ) (r : Relation) → end_of (text_of (truncate_json lsn r)) ≡ None
unfolding end_in
truncate_goes_on lsn r = of_value (truncate_json lsn r) None (truncate_reads lsn r) refl

pub summary_goes_on : (transactions changes position : ℕ) → transactions < 2 ^ 32 → changes < 2 ^ 64 → end_of (text_of (summary_json transactions changes position)) ≡ None
unfolding end_in
summary_goes_on transactions changes position few fits = of_value (summary_json transactions changes position) None (summary_reads transactions changes position few fits) refl
