-- The lines round the changes: of Begin, Commit and Message, and the last one.
use Rattle.std.specs.Prelude.{ℕ, Bool, true, false, List, codes, decimal}
use Rattle.std.specs.Fmt.{signed_decimal}
use Rattle.std.specs.Str.{is_utf8}
use Rattle.hex.specs.Hex.{encode_lower}
use Rattle.pgoutput.specs.declared.messages.begin.Begin.{Begin}
use Rattle.pgoutput.specs.declared.messages.commit.Commit.{Commit}
use Rattle.pgoutput.specs.declared.messages.message.Message.{Message}
use Rattle.json.specs.Json.{Json, boolean, number, string, object, no_members, member}
use Rattle.replcmd.specs.Position.{position_text}

abbrev pub begin_json : Begin → Json
begin_json m = object (member (codes "action") (string (codes "B")) (member (codes "xid") (number (decimal m.xid)) (member (codes "lsn") (string (position_text m.position)) (member (codes "timestamp") (number (signed_decimal m.time)) no_members))))

abbrev pub commit_json : Commit → Json
commit_json m = object (member (codes "action") (string (codes "C")) (member (codes "lsn") (string (position_text m.position)) (member (codes "nextlsn") (string (position_text m.end)) (member (codes "timestamp") (number (signed_decimal m.time)) no_members))))

-- the content of a message: its text, or the bytes of what is no text in hexadecimal, under another name
abbrev pub content_key : Bool → List ℕ
content_key true = codes "content"
content_key false = codes "contenthex"

abbrev pub content_text : Bool → List ℕ → List ℕ
content_text true bytes = bytes
content_text false bytes = encode_lower bytes

abbrev pub message_json : Message → Json
message_json m = object (member (codes "action") (string (codes "M")) (member (codes "transactional") (boolean m.is_transactional) (member (codes "lsn") (string (position_text m.position)) (member (codes "prefix") (string m.prefix) (member (content_key (is_utf8 m.content)) (string (content_text (is_utf8 m.content) m.content)) no_members)))))

-- what an output holds that has so many transactions and changes, and where it goes on
abbrev pub summary_json : (transactions changes position : ℕ) → Json
summary_json transactions changes position = object (member (codes "summary") (object (member (codes "transactions") (number (decimal transactions)) (member (codes "changes") (number (decimal changes)) (member (codes "lsn") (string (position_text position)) no_members)))) no_members)
