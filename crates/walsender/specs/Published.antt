-- The published transactions of a log: those that commit at the start position or later, each change replaced by its position
-- and its message, without the changes that have none and without the transactions that have none left.
use Rattle.std.specs.Prelude.{ℕ, ◌==◌, ◌<◌, ◌^◌, Bool, true, false, not, List, [], ◌∷◌, ◌++◌, length, map, filter, Option, Some, None}
use Rattle.pgoutput.specs.declared.logical.Logical.{Logical}
use Rattle.publication.specs.Publications.{PublicationSet}
use Rattle.wal.specs.declared.record.Record.{Record}
use Rattle.tables.specs.declared.changes.change.Change.{Change}
use Rattle.wal.specs.Log.{Entry, Transaction, note_as_transaction, committed_from}
use Rattle.publication.specs.Logged.{change_message, note_message}
use Rattle.publication.specs.Projection.{MessageFits}
use Rattle.walsender.specs.declared.commit_frames.header.Header.{Header}
use Rattle.pgoutput.specs.declared.published.Published.{Published}
use Rattle.pgoutput.specs.declared.published.PublishedChange.{PublishedChange}

abbrev pub published_at : ℕ → Option Logical → List PublishedChange
published_at position None = []
published_at position (Some m) = record { position = position; message = m } ∷ []

-- the changes that have a message
abbrev pub published_changes : PublicationSet → List Entry → List PublishedChange
published_changes selection [] = []
published_changes selection (e ∷ es) = published_at e.position (change_message selection e.position e.change) ++ published_changes selection es

-- the same of a note, which has one message, if the stream asks for messages
abbrev pub published_notes : PublicationSet → List Entry → List PublishedChange
published_notes selection [] = []
published_notes selection (e ∷ es) = published_at e.position (note_message selection e.position e.change) ++ published_notes selection es

abbrev pub changes_as : (is_note : Bool) → PublicationSet → List Entry → List PublishedChange
changes_as false selection es = published_changes selection es
changes_as true selection es = published_notes selection es

-- a stream can tell it: its position is one of 64 bits, and its message is of the selection's tables
abbrev pub CanBeTold : PublicationSet → PublishedChange → Type 0
CanBeTold selection c = (c.position < 2 ^ 64) × MessageFits selection c.message

abbrev pub published_as : PublicationSet → Transaction → Published
published_as selection t =
    record { is_note = t.is_note; start = t.start; end = t.end; time = t.time; xid = t.xid; changes = changes_as t.is_note selection t.changes }

-- the same by what a commit record tells, and what it commits
abbrev pub published_with : PublicationSet → List Entry → Header → Published
published_with selection entries h = record { is_note = false; start = h.start; end = h.end; time = h.time; xid = h.xid; changes = published_changes selection entries }

abbrev pub has_message : Published → Bool
has_message t = not (length t.changes == 0)

-- what a note publishes
abbrev pub published_note : PublicationSet → (start end : ℕ) → Change → List Published
published_note selection start end change = filter has_message (published_as selection (note_as_transaction start end change) ∷ [])

-- the transactions and notes that these records publish, given those before them
abbrev pub published_from : PublicationSet → ℕ → List Record → List Record → List Published
published_from selection s before rs = filter has_message (map (published_as selection) (committed_from s before rs))

-- the published transactions of a log that commit at the start position or later, and the notes from there on, in the order of the log
abbrev pub published_transactions : PublicationSet → List Record → ℕ → List Published
published_transactions selection log s = published_from selection s [] log
