-- What a sender has still to make into bytes: the changes of committed transactions and their Commits, between bytes that are made already.
use Rattle.std.specs.Prelude.{◌≡◌, ◌≤◌, ℕ, ℤ, ◌+◌, ◌-◌, false, List, [], ◌∷◌, ◌++◌, drop, length, map, reverse, take, IsSome}
use Rattle.std.specs.List.{AllByRecursion}
use Rattle.std.specs.Int.{w64, cast_unsigned}
use Rattle.pqformat.specs.Fields.{int32, int64}
use Rattle.frames.specs.declared.copy_data.TheConstants.{COPY_DATA}
use Rattle.copyboth.specs.declared.xlogdata.TheConstants.{XLOGDATA}
use Rattle.publication.specs.Publications.{PublicationSet}
use Rattle.publication.specs.Selection.{relation, selected_table}
use Rattle.pgoutput.specs.declared.published.PublishedChange.{PublishedChange}
use Rattle.pgoutput.specs.Words.{frames_of, word_bytes}
use Rattle.pgoutput.specs.Items.{changes_words, is_relation_sent, relations_sent_by_all, xlogdata_word}
use Rattle.reorder.specs.Pool.{PoolState}
use Rattle.reorder.specs.Ready.{ReadyState, ready_entries}
use Rattle.reorder.specs.declared.ready.RecordOutcome.{RecordOutcome}
use Rattle.reorder.specs.declared.ready.RecordOutcome.TheVariants as steps
use Rattle.walsender.specs.Published.{published_changes}
use Rattle.walsender.specs.Spelled.{begin_with, commit_with}
use Rattle.walsender.specs.declared.commit_frames.header.Header.{Header}
use Rattle.walsender.specs.declared.held.committed_transaction.CommittedTransaction.{CommittedTransaction}

-- a transaction's changes from the next one on, as they are published
abbrev pub left_of : PublicationSet → PoolState → CommittedTransaction → List PublishedChange
left_of selection pool w = published_changes selection (drop w.next (ready_entries pool w.ready))

-- the bytes of changes, and of the Relations that are due before them
abbrev pub changes_bytes : PublicationSet → List ℕ → ℤ → List PublishedChange → List ℕ
changes_bytes selection sent clock cs = frames_of (changes_words (relation selection) sent clock cs)

abbrev pub begin_bytes : ℤ → Header → List ℕ
begin_bytes clock h = word_bytes (xlogdata_word h.start clock (begin_with h))

abbrev pub commit_bytes : ℤ → Header → List ℕ
commit_bytes clock h = word_bytes (xlogdata_word h.end clock (commit_with h))

-- what is left to be made of a transaction: its changes from the next one on, and its Commit
abbrev pub bytes_left : PublicationSet → PoolState → List ℕ → CommittedTransaction → List ℕ
bytes_left selection pool sent w = changes_bytes selection sent w.clock (left_of selection pool w) ++ commit_bytes w.clock w.header

-- All bytes of transactions that wait and of what stands between them: each one's changes come after so many of the bytes that are made.
abbrev pub bytes_after : PublicationSet → PoolState → (sent made : List ℕ) → List CommittedTransaction → List ℕ
bytes_after selection pool sent made [] = made
bytes_after selection pool sent made (w ∷ ws) =
    take w.before made
    ++ (bytes_left selection pool sent w ++ bytes_after selection pool (relations_sent_by_all sent (left_of selection pool w)) (drop w.before made) ws)

-- the tables whose Relation was sent, once they are sent too
abbrev pub sent_after : PublicationSet → PoolState → List ℕ → List CommittedTransaction → List ℕ
sent_after selection pool sent [] = sent
sent_after selection pool sent (w ∷ ws) = sent_after selection pool (relations_sent_by_all sent (left_of selection pool w)) ws

-- Of so many bytes that are made, each one's changes have those in front of them that are theirs.
abbrev pub AreWithin : ℕ → List CommittedTransaction → Type 0
AreWithin made [] = Unit {0}
AreWithin made (w ∷ ws) = (w.before ≤ made) × AreWithin (made - w.before) ws

-- how many bytes that are made stand before the changes of the last one
abbrev pub places : List CommittedTransaction → ℕ
places [] = 0
places (w ∷ ws) = w.before + places ws

-- what is ready of those that wait
abbrev pub ready_states : List CommittedTransaction → List ReadyState
ready_states ws = map (λ w. w.ready) ws

-- what is ready, with what a record made ready after it
abbrev pub ready_states_with : List ReadyState → RecordOutcome → List ReadyState
ready_states_with rs steps.Quiet = rs
ready_states_with rs (steps.Ready ready) = rs ++ ready ∷ []

-- no table stands twice
abbrev pub AreEach : List ℕ → Type 0
AreEach [] = Unit {0}
AreEach (oid ∷ oids) = (is_relation_sent oids oid ≡ false) × AreEach oids

-- tables of the selection, each once
abbrev pub AreSelected : PublicationSet → List ℕ → Type 0
AreSelected selection sent = AreEach sent × AllByRecursion (λ oid. IsSome (selected_table selection oid)) sent

-- the bytes of a frame before a message of this length: the head of a CopyData and that of an XLogData
abbrev pub frame_head : ℕ → ℤ → ℕ → List ℕ
frame_head position clock length =
    COPY_DATA ∷ (int32 (29 + length) ++ (XLOGDATA ∷ (int64 position ++ (int64 position ++ int64 (cast_unsigned w64 clock)))))

-- These bytes are the first of the changes' bytes, and leave those.
pub record Makes (selection : PublicationSet) (clock : ℤ) (here next : List PublishedChange) (sent sent' made : List ℕ) : Type 0 where
  pub bytes : changes_bytes selection sent clock here ≡ made ++ changes_bytes selection sent' clock next
  pub names : relations_sent_by_all sent here ≡ relations_sent_by_all sent' next

-- the same of what is left of a transaction, where the Relations that were sent stand last first
abbrev pub MakesOf : PublicationSet → PoolState → CommittedTransaction → CommittedTransaction → (sent sent' made : List ℕ) → Type 0
MakesOf selection pool old new sent sent' made = Makes selection old.clock (left_of selection pool old) (left_of selection pool new) (reverse sent) (reverse sent') made
