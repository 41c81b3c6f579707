-- The lines of changes, as users of wal2json's format 2 know them.
use Rattle.std.specs.Prelude.{ℕ, List, [], ◌∷◌, Option, Some, None, codes}
use Rattle.pgoutput.specs.declared.messages.relation.Relation.{Relation}
use Rattle.pgoutput.specs.declared.messages.insert.Insert.{Insert}
use Rattle.pgoutput.specs.declared.messages.update.Update.{Update}
use Rattle.pgoutput.specs.declared.messages.delete.Delete.{Delete}
use Rattle.pgoutput.specs.declared.parts.old_tuple.OldTuple.{OldTuple}
use Rattle.pgoutput.specs.declared.parts.old_tuple.OldTuple.TheVariants as old
use Rattle.json.specs.Json.{Json, string, object, Members, no_members, member}
use Rattle.json.specs.Token as token
use Rattle.json.specs.Token.{Token}
use Rattle.json.specs.Tree.{json_tokens}
use Rattle.replcmd.specs.Position.{position_text}
use Rattle.message_lines.specs.Rows.{row_json}
use Rattle.message_lines.specs.declared.parts.told_values.ToldValues.TheVariants.{Whole, Key}

-- where in the log it is told, and of which table
abbrev pub change_members : List ℕ → ℕ → Relation → Members → Members
change_members action lsn r more = member (codes "action") (string action) (member (codes "lsn") (string (position_text lsn)) (member (codes "schema") (string r.namespace) (member (codes "table") (string r.name) more)))

-- the key, or the whole row
abbrev pub old_json : Relation → OldTuple → Json
old_json r (old.Key row) = row_json Key r row
old_json r (old.Full row) = row_json Whole r row

abbrev pub old_members : Relation → Option OldTuple → Members
old_members r None = no_members
old_members r (Some o) = member (codes "identity") (old_json r o) no_members

abbrev pub insert_json : ℕ → Relation → Insert → Json
insert_json lsn r m = object (change_members (codes "I") lsn r (member (codes "columns") (row_json Whole r m.new) no_members))

-- with what was sent of the old row
abbrev pub update_json : ℕ → Relation → Update → Json
update_json lsn r m = object (change_members (codes "U") lsn r (member (codes "columns") (row_json Whole r m.new) (old_members r m.old)))

abbrev pub delete_json : ℕ → Relation → Delete → Json
delete_json lsn r m = object (change_members (codes "D") lsn r (member (codes "identity") (old_json r m.old) no_members))

-- one of the tables that a Truncate names
abbrev pub truncate_json : ℕ → Relation → Json
truncate_json lsn r = object (change_members (codes "T") lsn r no_members)

-- ---- as they are written

abbrev pub change_front : List ℕ → ℕ → Relation → List Token
change_front action lsn r = token.begin_object ∷ token.key (codes "action") ∷ token.string action ∷ token.key (codes "lsn") ∷ token.string (position_text lsn) ∷ token.key (codes "schema") ∷ token.string r.namespace ∷ token.key (codes "table") ∷ token.string r.name ∷ []

abbrev pub old_tokens : Relation → Option OldTuple → List Token
old_tokens r None = []
old_tokens r (Some o) = token.key (codes "identity") ∷ json_tokens (old_json r o)
