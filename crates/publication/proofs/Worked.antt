-- Worked changes, by which the definitions were checked.
use Rattle.std.proofs.Common.{◌≡◌, ℕ, pos, true, false, List, [], ◌∷◌, Option, Some, None, refl}
use Rattle.std.specs.Prelude.{codes, map, option_to_list}
use Rattle.std.specs.Fmt.{digits}
use Rattle.pqformat.specs.Fields.{int16, int32, int64}
use Rattle.pgoutput.specs.declared.logical.Logical.{Logical}
use Rattle.pgoutput.specs.declared.logical.Logical.TheVariants as logical
use Rattle.pgoutput.specs.declared.parts.tuple.Cell.{Cell}
use Rattle.pgoutput.specs.declared.parts.tuple.Cell.TheVariants.{Null, Text}
use Rattle.pgoutput.specs.declared.parts.old_tuple.OldTuple.{OldTuple}
use Rattle.pgoutput.specs.declared.parts.old_tuple.OldTuple.TheVariants.{Key, Full}
use Rattle.tables.specs.declared.identity.Identity.TheVariants as identities
use Rattle.tables.specs.declared.kinds.Kind.TheVariants as kinds
use Rattle.tables.specs.declared.kinds.Value.{Value}
use Rattle.tables.specs.declared.kinds.Value.TheVariants as values
use Rattle.tables.specs.declared.table.Table.{Table}
use Rattle.tables.specs.declared.changes.change.Change.TheVariants as changes
use Rattle.tables.specs.Tables.{item_table, table_named}
use Rattle.publication_config.specs.declared.publication.Publication.{Publication}
use Rattle.publication_config.specs.Published.{PublicationSet, all_operations, published_whole, publications_named}
use Rattle.row_messages.specs.Messages.{delete_message, update_message}
use Rattle.publication.specs.Projection.{message, message_of_update}

-- ---- Tables, rows and messages.

abbrev tag_table : Table
tag_table = record {
  oid = 16385;
  schema = codes "public";
  name = codes "tag";
  identity = identities.Full;
  columns = record { name = codes "k"; kind = kinds.Text; is_key = true } ∷ record { name = codes "v"; kind = kinds.Int4; is_key = false } ∷ [];
}

abbrev note_table : Table
note_table = record {
  oid = 16386;
  schema = codes "public";
  name = codes "note";
  identity = identities.Nothing;
  columns = record { name = codes "id"; kind = kinds.Int8; is_key = true } ∷ record { name = codes "m"; kind = kinds.Text; is_key = false } ∷ [];
}

-- the publication of one table whole, or of nothing where the catalogue has no such table
abbrev publication_of : List ℕ → List ℕ → List Table → Publication
publication_of name table tables = record { name = name; operations = all_operations; tables = map published_whole (option_to_list (table_named table tables)) }

-- p of the table public.item, and t of the table public.tag
abbrev builtin_publications : List Table → PublicationSet
builtin_publications tables = record {
  tables = tables;
  publications = publication_of (codes "p") (codes "public.item") tables ∷ publication_of (codes "t") (codes "public.tag") tables ∷ [];
  messages = false;
}

abbrev by : List (List ℕ) → PublicationSet
by names =
    let all = builtin_publications (item_table ∷ tag_table ∷ note_table ∷ []) in
    record all { publications = publications_named names all.publications }

abbrev item : ℕ → List ℕ → ℕ → List Value
item id name qty = values.Int4 (pos id) ∷ values.Text name ∷ values.Int8 (pos qty) ∷ []

abbrev tag : List ℕ → Value → List Value
tag k v = values.Text k ∷ v ∷ []

abbrev note : List ℕ → List Value
note m = values.Int8 (pos 1) ∷ values.Text m ∷ []

abbrev update : ℕ → Option OldTuple → List Cell → Option Logical
update oid old new = Some (logical.Update (record { oid = oid; old = old; new = new }))

abbrev delete : ℕ → OldTuple → Option Logical
delete oid old = Some (logical.Delete (record { oid = oid; old = old }))

abbrev truncate : List ℕ → Option Logical
truncate oids = Some (logical.Truncate (record { options = record { cascade = false; restart_identity = false }; oids = oids }))

-- ---- An identity by the key: the old key where it changed.

other_key : message (by (codes "p" ∷ [])) (changes.Update 16384 (item 1 (codes "a") 1) (item 2 (codes "a") 1))
    ≡ update 16384 (Some (Key (Text (codes "1") ∷ Null ∷ Null ∷ []))) (Text (codes "2") ∷ Text (codes "a") ∷ Text (codes "1") ∷ [])
unfolding digits int16 int32 int64
other_key = refl

same_key : message (by (codes "p" ∷ [])) (changes.Update 16384 (item 2 (codes "a") 1) (item 2 (codes "b") 1)) ≡ update 16384 None (Text (codes "2") ∷ Text (codes "b") ∷ Text (codes "1") ∷ [])
unfolding digits int16 int32 int64
same_key = refl

gone_key : message (by (codes "p" ∷ [])) (changes.Delete 16384 (item 2 (codes "b") 1)) ≡ delete 16384 (Key (Text (codes "2") ∷ Null ∷ Null ∷ []))
unfolding digits int16 int32 int64
gone_key = refl

-- ---- A full identity: the whole old row, always.

new_row : message (by (codes "t" ∷ [])) (changes.Insert 16385 (tag (codes "b") values.Null)) ≡ Some (logical.Insert (record { oid = 16385; new = Text (codes "b") ∷ Null ∷ [] }))
unfolding digits int16 int32 int64
new_row = refl

old_row : message (by (codes "t" ∷ [])) (changes.Update 16385 (tag (codes "b") values.Null) (tag (codes "b") (values.Int4 (pos 4))))
    ≡ update 16385 (Some (Full (Text (codes "b") ∷ Null ∷ []))) (Text (codes "b") ∷ Text (codes "4") ∷ [])
unfolding digits int16 int32 int64
old_row = refl

gone_row : message (by (codes "t" ∷ [])) (changes.Delete 16385 (tag (codes "b") (values.Int4 (pos 4)))) ≡ delete 16385 (Full (Text (codes "b") ∷ Text (codes "4") ∷ []))
unfolding digits int16 int32 int64
gone_row = refl

-- ---- No identity: of an old row nothing, so of a row that is gone no message.

no_old_row : update_message (note (codes "m")) (note (codes "n")) note_table ≡ logical.Update (record { oid = 16386; old = None; new = Text (codes "1") ∷ Text (codes "n") ∷ [] })
unfolding digits int16 int32 int64
no_old_row = refl

gone_unseen : delete_message (note (codes "m")) note_table ≡ None
gone_unseen = refl

-- ---- Truncates: the published tables in the order of the call.

one_table : message (by (codes "p" ∷ [])) (changes.Truncate (16385 ∷ 16384 ∷ 16386 ∷ [])) ≡ truncate (16384 ∷ [])
one_table = refl

two_tables : message (by (codes "p" ∷ codes "t" ∷ codes "p" ∷ [])) (changes.Truncate (16385 ∷ 16384 ∷ 16386 ∷ [])) ≡ truncate (16385 ∷ 16384 ∷ [])
two_tables = refl

no_table : message (by (codes "p" ∷ codes "t" ∷ [])) (changes.Truncate (16386 ∷ [])) ≡ None
no_table = refl

-- ---- What doesn't fit the catalogue.

unknown_table : message (by (codes "p" ∷ [])) (changes.Truncate (16384 ∷ 16387 ∷ [])) ≡ None
unknown_table = refl

named_twice : message (by (codes "p" ∷ [])) (changes.Truncate (16384 ∷ 16384 ∷ [])) ≡ None
named_twice = refl

wrong_old_row : message (by (codes "p" ∷ [])) (changes.Update 16384 (tag (codes "b") values.Null) (item 2 (codes "a") 1)) ≡ None
unfolding digits int16 int32 int64
wrong_old_row = refl

-- ---- Updates by which of the rows pass.

comes : message_of_update false true (Some item_table) (item 1 (codes "a") 1) (item 2 (codes "b") 1) ≡ Some (logical.Insert (record { oid = 16384; new = Text (codes "2") ∷ Text (codes "b") ∷ Text (codes "1") ∷ [] }))
unfolding digits int16 int32 int64
comes = refl

goes : message_of_update true false (Some item_table) (item 1 (codes "a") 1) (item 2 (codes "b") 1) ≡ delete 16384 (Key (Text (codes "1") ∷ Null ∷ Null ∷ []))
unfolding digits int16 int32 int64
goes = refl
