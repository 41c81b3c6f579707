-- A sender between its calls, and what reading records does to it. The records may be those of a whole log or of a section of
-- one, which begins after earlier records of its transactions.
use Rattle.std.specs.Prelude.{◌≡◌, ◌⊎◌, ◌+◌, ◌<◌, ℕ, ℤ, Bool, true, false, List, [], ◌∷◌, ◌++◌, length, take, map, filter, nat_le, slice_get, sum_by, Option, Some, None, option_map, option_to_list, if◌then◌else◌}
use Rattle.std.specs.List.{AllByRecursion}
use Rattle.publication.specs.Publications.{PublicationSet}
use Rattle.wal.specs.declared.record.Record.{Record}
use Rattle.wal.specs.declared.record.Body.{Body}
use Rattle.wal.specs.declared.record.Body.TheVariants.{Commit, Note}
use Rattle.wal.specs.Log.{Entry, Transaction, end_of}
use Rattle.chgarena.specs.Strands.{fills}
use Rattle.reorder.specs.Chunks.{IsTidy, LeavesNoRoom, live_chunks, transaction_chunks}
use Rattle.reorder.specs.Taking.{ReorderState, HasTaken, MayCome, StartsBehind, Takes}
use Rattle.publication.specs.Selection.{relation}
use Rattle.pgoutput.specs.declared.published.Published.{Published}
use Rattle.pgoutput.specs.Items.{Item, Block, FitsPublished, bytes_of_items, relations_sent_through}
use Rattle.walsender.specs.declared.fault.SendFault.{SendFault}
use Rattle.walsender.specs.declared.fault.SendFault.TheVariants.{ArenaFull, Memory}
use Rattle.walsender.specs.Lent.{AreHeld, AreLastOf, LentTransaction, lent_with, sent_transactions}
use Rattle.walsender.specs.Published.{published_transactions, published_as, published_from, published_note, published_with, has_message}
use Rattle.walsender.specs.declared.commit_frames.header.Header.{Header}

-- what determines the bytes to come
pub record SenderState : Type 0 where
  pub selection : PublicationSet
  pub start : ℕ
  pub position : ℕ
  pub failed : Bool
  pub held : List ℕ
  pub relations_sent : List ℕ
  pub reorder : ReorderState
  pub lent : List LentTransaction

-- Each record may come next, in a section of a well-formed log, after those before it.
abbrev pub MayFollow : List Record → List Record → Type 0
MayFollow before [] = Unit {0}
MayFollow before (r ∷ rs) = MayCome before r.body × StartsBehind before r × MayFollow (before ++ r ∷ []) rs

-- The sender is as these records, and no others, leave one.
pub record HasRead (s : SenderState) (rs : List Record) : Type 0 where
  pub taken : HasTaken s.reorder rs
  pub running : s.reorder.failed ≡ false
  pub relations_sent : s.relations_sent ≡ relations_sent_through [] (published_transactions s.selection rs s.start)
  pub lent : AreLastOf s.lent (sent_transactions s.selection rs s.start)

-- blocks of these transactions, all under one clock
abbrev pub blocks : ℤ → List Published → List Item
blocks clock ts = map (Block clock) ts

-- the bytes of these transactions' blocks, where those of earlier ones have been sent
abbrev pub published_bytes : PublicationSet → ℤ → List Published → List Published → List ℕ
published_bytes selection clock earlier ts = bytes_of_items (relation selection) (relations_sent_through [] earlier) (blocks clock ts)

-- What was held has grown by exactly the blocks of the transactions that these records publish, given those before them, and a
-- stream has room for each of their fields.
pub record AddsPublished (clock : ℤ) (old : SenderState) (held : List ℕ) (before rs : List Record) : Type 0 where
  pub adds : held ≡ old.held ++ published_bytes old.selection clock (published_transactions old.selection before old.start) (published_from old.selection old.start before rs)
  pub fit : AllByRecursion (FitsPublished (relation old.selection)) (published_from old.selection old.start before rs)

-- All records were read: whatever was read before, if these may follow, they are read too, and what they publish is held.
pub record ReadAll (clock : ℤ) (old new : SenderState) (rs : List Record) : Type 0 where
  pub selection : new.selection ≡ old.selection
  pub start : new.start ≡ old.start
  pub position : new.position ≡ end_of old.position rs
  pub after : (before : List Record) → HasRead old before → MayFollow before rs → HasRead new (before ++ rs) × AddsPublished clock old new.held before rs

-- what a sender may run out of
abbrev pub IsOut : SendFault → Type 0
IsOut fault = (fault ≡ ArenaFull) ⊎ (fault ≡ Memory)

-- Some were read, what these publish is held, and for the next one the arena was full or memory was refused: the sender has failed.
pub record RanOut (clock : ℤ) (old new : SenderState) (rs : List Record) : Type 0 where
  pub count : ℕ
  pub fewer : count < length rs
  pub selection : new.selection ≡ old.selection
  pub start : new.start ≡ old.start
  pub position : new.position ≡ end_of old.position (take count rs)
  pub after : (before : List Record) → HasRead old before → MayFollow before (take count rs) → AddsPublished clock old new.held before (take count rs)
  pub failed : new.failed ≡ true

-- the arena has so many chunks, and nothing lies in it but what transactions in progress changed
abbrev pub HasChunks : SenderState → ℕ → Type 0
HasChunks s count = IsTidy count [] s.reorder.strands

-- So many chunks are free: all but those of live xids, by these records, and those of the last ones of the transactions that these records
-- send, of each of which at least the Commit is held whole.
pub record LeavesChunks (s : SenderState) (chunks : ℕ) (rs : List Record) (free : ℕ) : Type 0 where
  pub all : free + live_chunks rs + sum_by (λ (t : LentTransaction). t.chunks) s.lent ≡ chunks
  pub sent : AreLastOf s.lent (sent_transactions s.selection rs s.start)
  pub held : AreHeld s.held s.lent

-- the arena has so many chunks, whatever lies in them
abbrev pub HasSize : SenderState → ℕ → Type 0
HasSize s count = length s.reorder.strands.pool.arena ≡ count

-- So many chunks are free, also after a refusal: all but those that are taken once all that is held has gone out, and those of what is held.
abbrev pub LeavesFree : SenderState → ℕ → Type 0
LeavesFree s free = free + fills s.reorder.strands.pool.arena + sum_by (λ (t : LentTransaction). t.chunks) s.lent ≡ length s.reorder.strands.pool.arena

-- the changes of transactions in progress have taken all chunks, and nothing that is held has one
pub record IsFilled (s : SenderState) : Type 0 where
  pub all : fills s.reorder.strands.pool.arena ≡ length s.reorder.strands.pool.arena
  pub alone : s.lent ≡ []

-- where these records might come, into an arena with nothing in it but what transactions in progress changed, it is full now
abbrev pub Fills : SenderState → SenderState → List Record → Type 0
Fills old new rs = (before : List Record) (chunks : ℕ) → HasRead old before → MayFollow before rs → HasChunks old chunks → IsFilled new

-- After those of these records that were read, which the position tells, stands a change for which no chunk was left.
pub record LacksRoom (old new : SenderState) (rs : List Record) : Type 0 where
  pub count : ℕ
  pub next : Record
  pub is : slice_get rs count ≡ Some next
  pub position : new.position ≡ end_of old.position (take count rs)
  pub room : (before : List Record) (chunks : ℕ) → HasRead old before → MayFollow before rs → HasChunks old chunks → LeavesNoRoom chunks (before ++ take count rs) next

-- After those of these records that were read, which the position tells, stands none for whose change the transactions in progress left no
-- chunk.
pub record HasRoom (old new : SenderState) (rs : List Record) : Type 0 where
  pub count : ℕ
  pub next : Record
  pub is : slice_get rs count ≡ Some next
  pub position : new.position ≡ end_of old.position (take count rs)
  pub room : (before : List Record) (chunks : ℕ) → HasRead old before → MayFollow before rs → HasChunks old chunks → LeavesNoRoom chunks (before ++ take count rs) next → ⊥

-- ONE RECORD, NOT NEEDED BY A READER OF `feed`

-- the transaction that a record with these changes commits, if it starts at the start position s or later
abbrev pub ready_at : ℕ → ℕ → ℕ → Body → List Entry → List Transaction
ready_at s start end (Commit xid time) entries =
    if nat_le s start then record { is_note = false; start = start; end = end; time = time; xid = xid; changes = entries } ∷ [] else []
ready_at s start end _ entries = []

-- what a record publishes that makes nothing ready: a note that starts at the start position s or later
abbrev pub published_quietly : PublicationSet → (s start end : ℕ) → Body → List Published
published_quietly selection s start end (Note change) = if nat_le s start then published_note selection start end change else []
published_quietly selection s start end _ = []

-- what a record publishes by what it made ready
abbrev pub published_by_record : PublicationSet → ℕ → Record → Option (List Entry) → List Published
published_by_record selection s r None = published_quietly selection s r.start r.end r.body
published_by_record selection s r (Some entries) = filter has_message (map (published_as selection) (ready_at s r.start r.end r.body entries))

-- under which header a record publishes what it made ready, if it does
abbrev pub IsHeaderOf : PublicationSet → ℕ → Record → List Entry → Option Header → Type 0
IsHeaderOf selection s r entries header = option_to_list (option_map (published_with selection entries) header) ≡ published_by_record selection s r (Some entries)

-- the transaction that a record sends by what it made ready, with the chunks that its changes fill
abbrev pub sent_by_record : PublicationSet → ℕ → Record → Option (List Entry) → List LentTransaction
sent_by_record selection s r None = []
sent_by_record selection s r (Some entries) = map (lent_with (transaction_chunks entries)) (published_by_record selection s r (Some entries))

-- one record was read
pub record ReadOne (clock : ℤ) (old new : SenderState) (r : Record) : Type 0 where
  pub ready : Option (List Entry)
  pub takes : Takes old.reorder new.reorder r ready
  pub running : new.reorder.failed ≡ false
  pub selection : new.selection ≡ old.selection
  pub start : new.start ≡ old.start
  pub position : new.position ≡ r.end
  pub held : new.held ≡ old.held ++ bytes_of_items (relation old.selection) old.relations_sent (blocks clock (published_by_record old.selection old.start r ready))
  pub fit : AllByRecursion (FitsPublished (relation old.selection)) (published_by_record old.selection old.start r ready)
  pub relations_sent : new.relations_sent ≡ relations_sent_through old.relations_sent (published_by_record old.selection old.start r ready)
  pub lent : (before : List Record) → HasTaken old.reorder before → MayCome before r.body → AreLastOf new.lent (old.lent ++ sent_by_record old.selection old.start r ready)

-- nothing that a drain or a reader of the position sees has changed
pub record OutputUnchanged (old new : SenderState) : Type 0 where
  pub selection : new.selection ≡ old.selection
  pub start : new.start ≡ old.start
  pub position : new.position ≡ old.position
  pub held : new.held ≡ old.held
