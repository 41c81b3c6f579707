-- The items of a stream, and the words that spell them. An item is a keepalive, or a block under one clock: one published
-- transaction whole, or a note, a message outside of transactions. Before the first message of the stream that names a table
-- stands the table's Relation.
use Rattle.std.specs.Prelude.{◌≡◌, ℕ, ℤ, pos, true, false, ◌+◌, ◌<◌, ◌≤◌, ◌^◌, FitsSigned, Bool, ◌==◌, if◌then◌else◌, List, [], ◌∷◌, ◌++◌, map, reverse, length, Option, Some, None}
use Rattle.std.specs.List.{list_any, AllByRecursion}
use Rattle.std.specs.Int.{w64}
use Rattle.pgoutput.specs.declared.logical.Logical.{Logical}
use Rattle.pgoutput.specs.declared.logical.Logical.TheVariants as logical
use Rattle.pgoutput.specs.declared.messages.message.Message.{Message}
use Rattle.pgoutput.specs.declared.messages.relation.Relation.{Relation}
use Rattle.pgoutput.specs.declared.parts.tuple.Cell.{Cell}
use Rattle.pgoutput.specs.declared.parts.old_tuple.OldTuple.{OldTuple}
use Rattle.pgoutput.specs.OldTuple.{cells_of}
use Rattle.pgoutput.specs.Logical.{spell_logical, FitsLogical}
use Rattle.pgoutput.specs.declared.copy_both_message.CopyBothMessage.{CopyBothMessage}
use Rattle.pgoutput.specs.declared.copy_both_message.CopyBothMessage.TheVariants as words
use Rattle.pgoutput.specs.declared.copy_both_message.Keepalive.{Keepalive}
use Rattle.pgoutput.specs.declared.published.Published.{Published}
use Rattle.pgoutput.specs.declared.published.PublishedChange.{PublishedChange}
use Rattle.frames.specs.declared.parts.frame.TheConstants.{FRAME_LIMIT}
use Rattle.pgoutput.specs.Words.{frames_of}

pub data Item : Type 0 where
  KeepaliveItem : Keepalive → Item
  Block : (clock : ℤ) → Published → Item

-- ---- Words.

-- one message at a position: the second number of its XLogData repeats the first
abbrev pub xlogdata_word : ℕ → ℤ → Logical → CopyBothMessage
xlogdata_word position clock message = words.XLogData (record { start = position; end = position; clock = clock; message = message })

abbrev pub keepalive_word : ℕ → ℤ → Bool → CopyBothMessage
keepalive_word position clock ask = words.Keepalive (record { position = position; clock = clock; ask = ask })

-- the tables that a message names, in the order in which it names them
abbrev pub tables_of : Logical → List ℕ
tables_of (logical.Insert m) = m.oid ∷ []
tables_of (logical.Update m) = m.oid ∷ []
tables_of (logical.Delete m) = m.oid ∷ []
tables_of (logical.Truncate m) = m.oids
tables_of (logical.Begin m) = []
tables_of (logical.Commit m) = []
tables_of (logical.Relation m) = []
tables_of (logical.Message m) = []

abbrev pub is_relation_sent : List ℕ → ℕ → Bool
is_relation_sent relations_sent oid = list_any (λ n. n == oid) relations_sent

-- those of the tables whose Relation wasn't sent before, each once
abbrev pub relations_due : List ℕ → List ℕ → List ℕ
relations_due relations_sent [] = []
relations_due relations_sent (oid ∷ oids) = if is_relation_sent relations_sent oid then relations_due relations_sent oids else oid ∷ relations_due (oid ∷ relations_sent) oids

-- the tables whose Relation was sent, the newest first, once the change is sent too
abbrev pub relations_sent_by : List ℕ → PublishedChange → List ℕ
relations_sent_by relations_sent c = reverse (relations_due relations_sent (tables_of c.message)) ++ relations_sent

abbrev pub relations_sent_by_all : List ℕ → List PublishedChange → List ℕ
relations_sent_by_all relations_sent [] = relations_sent
relations_sent_by_all relations_sent (c ∷ cs) = relations_sent_by_all (relations_sent_by relations_sent c) cs

-- the Relations of these tables, at a position
abbrev pub relation_words : (ℕ → Relation) → ℕ → ℤ → List ℕ → List CopyBothMessage
relation_words relation position clock oids = map (λ oid. xlogdata_word position clock (logical.Relation (relation oid))) oids

-- a change: the Relations that are due, and its message, all at its position
abbrev pub change_words : (ℕ → Relation) → List ℕ → ℤ → PublishedChange → List CopyBothMessage
change_words relation relations_sent clock c =
    relation_words relation c.position clock (relations_due relations_sent (tables_of c.message)) ++ (xlogdata_word c.position clock c.message ∷ [])

abbrev pub changes_words : (ℕ → Relation) → List ℕ → ℤ → List PublishedChange → List CopyBothMessage
changes_words relation relations_sent clock [] = []
changes_words relation relations_sent clock (c ∷ cs) = change_words relation relations_sent clock c ++ changes_words relation (relations_sent_by relations_sent c) clock cs

abbrev pub begin_message : Published → Logical
begin_message t = logical.Begin (record { position = t.start; time = t.time; xid = t.xid })

abbrev pub commit_message : Published → Logical
commit_message t = logical.Commit (record { position = t.start; end = t.end; time = t.time })

-- a transaction: Begin at the start of the commit record, the changes in order, Commit at its end
abbrev pub transaction_words : (ℕ → Relation) → List ℕ → ℤ → Published → List CopyBothMessage
transaction_words relation relations_sent clock t =
    xlogdata_word t.start clock (begin_message t)
    ∷ (changes_words relation relations_sent clock t.changes
    ++ (xlogdata_word t.end clock (commit_message t) ∷ []))

-- a note: its message by itself, at the end of its record
abbrev pub note_words : ℤ → Published → List CopyBothMessage
note_words clock t = map (λ c. xlogdata_word t.end clock c.message) t.changes

abbrev pub words_by : (is_note : Bool) → (ℕ → Relation) → List ℕ → ℤ → Published → List CopyBothMessage
words_by false relation relations_sent clock t = transaction_words relation relations_sent clock t
words_by true relation relations_sent clock t = note_words clock t

-- a block
abbrev pub block_words : (ℕ → Relation) → List ℕ → ℤ → Published → List CopyBothMessage
block_words relation relations_sent clock t = words_by t.is_note relation relations_sent clock t

abbrev pub item_words : (ℕ → Relation) → List ℕ → Item → List CopyBothMessage
item_words relation relations_sent (KeepaliveItem k) = words.Keepalive k ∷ []
item_words relation relations_sent (Block clock t) = block_words relation relations_sent clock t

abbrev pub relations_sent_after : List ℕ → Item → List ℕ
relations_sent_after relations_sent (KeepaliveItem k) = relations_sent
relations_sent_after relations_sent (Block clock t) = relations_sent_by_all relations_sent t.changes

-- the words of the items, where the Relations of these tables were sent before them
abbrev pub words_of : (ℕ → Relation) → List ℕ → List Item → List CopyBothMessage
words_of relation relations_sent [] = []
words_of relation relations_sent (item ∷ items) = item_words relation relations_sent item ++ words_of relation (relations_sent_after relations_sent item) items

-- what the items spell
abbrev pub bytes_of_items : (ℕ → Relation) → List ℕ → List Item → List ℕ
bytes_of_items relation relations_sent items = frames_of (words_of relation relations_sent items)

-- the tables whose Relation was sent, once these transactions are sent too
abbrev pub relations_sent_through : List ℕ → List Published → List ℕ
relations_sent_through relations_sent [] = relations_sent
relations_sent_through relations_sent (t ∷ ts) = relations_sent_through (relations_sent_by_all relations_sent t.changes) ts

-- the transactions of the items, in order, and the notes among them
abbrev pub transactions_of : List Item → List Published
transactions_of [] = []
transactions_of (KeepaliveItem k ∷ items) = transactions_of items
transactions_of (Block clock t ∷ items) = t ∷ transactions_of items

-- ---- Ranges. They don't hang on the Relations that were sent.

-- Its XLogData, which has 25 bytes before the message, is within the limit of a frame.
abbrev pub IsShortMessage : Logical → Type 0
IsShortMessage m = 29 + length (spell_logical m) ≤ FRAME_LIMIT

-- the Relation of a table: it tells that table, fits its fields and its frame
pub record FitsRelationOf (relation : ℕ → Relation) (oid : ℕ) : Type 0 where
  pub tells : (relation oid).oid ≡ oid
  pub fits : FitsLogical (logical.Relation (relation oid))
  pub short : IsShortMessage (logical.Relation (relation oid))

-- a tuple has as many cells as the table's Relation has columns
abbrev pub IsTupleOf : (ℕ → Relation) → ℕ → List Cell → Type 0
IsTupleOf relation oid cells = length cells ≡ length (relation oid).columns

abbrev pub IsOldOf : (ℕ → Relation) → ℕ → Option OldTuple → Type 0
IsOldOf relation oid None = Unit {0}
IsOldOf relation oid (Some old) = IsTupleOf relation oid (cells_of old)

-- a message of a change, with tuples of its table
abbrev pub IsOfChange : (ℕ → Relation) → Logical → Type 0
IsOfChange relation (logical.Insert m) = IsTupleOf relation m.oid m.new
IsOfChange relation (logical.Update m) = IsOldOf relation m.oid m.old × IsTupleOf relation m.oid m.new
IsOfChange relation (logical.Delete m) = IsTupleOf relation m.oid (cells_of m.old)
IsOfChange relation (logical.Truncate m) = Unit {0}
IsOfChange relation (logical.Message m) = m.is_transactional ≡ true
IsOfChange relation _ = ⊥

pub record FitsChange (relation : ℕ → Relation) (c : PublishedChange) : Type 0 where
  pub position : c.position < 2 ^ 64
  pub of_change : IsOfChange relation c.message
  pub fits : FitsLogical c.message
  pub short : IsShortMessage c.message
  pub relations : AllByRecursion (FitsRelationOf relation) (tables_of c.message)

-- a note: one message outside of transactions, at its start, with no time and no xid
pub record FitsNote (t : Published) : Type 0 where
  pub time : t.time ≡ pos 0
  pub xid : t.xid ≡ 0
  pub message : Message
  pub is : t.changes ≡ record { position = t.start; message = logical.Message message } ∷ []
  pub outside : message.is_transactional ≡ false
  pub position : message.position ≡ t.start
  pub fits : FitsLogical (logical.Message message)
  pub short : IsShortMessage (logical.Message message)

abbrev pub FitChanges : (is_note : Bool) → (ℕ → Relation) → Published → Type 0
FitChanges false relation t = AllByRecursion (FitsChange relation) t.changes
FitChanges true relation t = FitsNote t

pub record FitsPublished (relation : ℕ → Relation) (t : Published) : Type 0 where
  pub start : t.start < 2 ^ 64
  pub end : t.end < 2 ^ 64
  pub time : FitsSigned w64 t.time
  pub xid : t.xid < 2 ^ 32
  pub changes : FitChanges t.is_note relation t

abbrev pub FitsItem : (ℕ → Relation) → Item → Type 0
FitsItem relation (KeepaliveItem k) = (k.position < 2 ^ 64) × FitsSigned w64 k.clock
FitsItem relation (Block clock t) = FitsSigned w64 clock × FitsPublished relation t

abbrev pub FitItems : (ℕ → Relation) → List Item → Type 0
FitItems relation items = AllByRecursion (FitsItem relation) items
