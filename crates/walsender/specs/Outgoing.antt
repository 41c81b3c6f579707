-- What is on its way out, as one list of bytes.
use Rattle.std.specs.Prelude.{◌≡◌, ◌⊎◌, ◌<◌, ◌≤◌, ◌-◌, ◌+◌, ℕ, ℤ, List, [], ◌∷◌, ◌++◌, OnErr, OnOk, Result, drop, length, map, reverse, take, vec_capacity}
use Rattle.std.specs.List.{AllByRecursion}
use Rattle.std.specs.declared.alloc.AllocError.{AllocError}
use Rattle.publication.specs.Publications.{PublicationSet}
use Rattle.publication.specs.Selection.{relation, selected_oids}
use Rattle.pgoutput.specs.declared.published.Published.{Published}
use Rattle.pgoutput.specs.Items.{Block, bytes_of_items, relations_sent_through}
use Rattle.reorder.specs.Ready.{ReadyState}
use Rattle.walsender.specs.declared.commit_frames.header.Header.{Header}
use Rattle.reorder.specs.Chunks.{IsTidy, live_chunks}
use Rattle.reorder.specs.Settled.{AreLentIn, after_giving_all_back, lent_chunks, ready_chunks}
use Rattle.reorder.specs.declared.ready.RecordOutcome.{RecordOutcome}
use Rattle.reorder.specs.declared.ready.RecordOutcome.TheVariants as steps
use Rattle.chgarena.specs.Strands.{Strands as Arena}
use Rattle.reorder.specs.Taking.{HasTaken, ReorderState}
use Rattle.wal.specs.declared.record.Record.{Record}
use Rattle.walsender.specs.Waiting.{AreSelected, AreWithin, begin_bytes, bytes_after, places, ready_states, sent_after}
use Rattle.walsender.specs.Lent.{AreLastOf, LentTransaction, lent_with}
use Rattle.walsender.specs.declared.held.outgoing.Outgoing.{Outgoing}
use Rattle.walsender.specs.declared.held.committed_transaction.CommittedTransaction.{CommittedTransaction}
use Rattle.walsender.specs.declared.held.outgoing.TheConstants.{FRAMES_LENGTH}

-- the frames that are made and not yet taken
abbrev pub frames_left : Outgoing → List ℕ
frames_left o = take (o.to - o.from) (drop o.from o.frames.items)

-- what is held after those frames
abbrev pub held_behind : PublicationSet → ReorderState → Outgoing → List ℕ
held_behind selection s o = bytes_after selection s.strands.pool (reverse o.relations_sent.items) o.made.items o.waiting.items

-- all that is held
abbrev pub held_of : PublicationSet → ReorderState → Outgoing → List ℕ
held_of selection s o = o.front.items ++ (frames_left o ++ held_behind selection s o)

-- the tables whose Relation was sent, the newest first, once all that is held is sent too
abbrev pub sent_of : PublicationSet → ReorderState → Outgoing → List ℕ
sent_of selection s o = sent_after selection s.strands.pool (reverse o.relations_sent.items) o.waiting.items

-- the regrouping as it is once all that is held has gone out
abbrev pub settled_of : ReorderState → Outgoing → ReorderState
settled_of s o = after_giving_all_back s (ready_states o.waiting.items)

-- What was taken has been taken once all that is held has gone out.
abbrev pub StaysTaken : ReorderState → ReorderState → Outgoing → Type 0
StaysTaken old new o = (rs : List Record) → HasTaken old rs → HasTaken (settled_of new o) rs

-- The arena has as many chunks once all that is held has gone out as where these were given back.
abbrev pub StaysTidy : ReorderState → List ReadyState → ReorderState → Outgoing → Type 0
StaysTidy old given new o = (count : ℕ) → IsTidy count [] (after_giving_all_back old given).strands → IsTidy count [] (settled_of new o).strands

-- a transaction that waits, with the chunks that its changes fill
abbrev pub lent_in : Arena → CommittedTransaction → LentTransaction
lent_in arena w = record { commit = record { position = w.header.start; end = w.header.end; time = w.header.time }; chunks = ready_chunks arena w.ready }

-- those that wait
abbrev pub lent_of : ReorderState → Outgoing → List LentTransaction
lent_of s o = map (lent_in s.strands.pool.arena) o.waiting.items

-- those of which a record sends the published one, by what it made ready
abbrev pub lent_by_step : List Published → ReorderState → RecordOutcome → List LentTransaction
lent_by_step ts s steps.Quiet = []
lent_by_step ts s (steps.Ready ready) = map (lent_with (ready_chunks s.strands.pool.arena ready)) ts

-- there is room for frames, or there are none to be made
abbrev pub HasRoom : Outgoing → Type 0
HasRoom o = (length o.frames.items ≡ FRAMES_LENGTH) ⊎ ((length o.frames.items ≡ 0) × (o.made.items ≡ []) × (o.waiting.items ≡ []))

-- What holds between two calls: the transactions that wait lie in the arena, each has its place among the bytes that are made, there is
-- room for frames where any are to be made, and for the OIDs of all Relations that are to be sent. Each of those transactions has a change.
pub record IsOutgoing (selection : PublicationSet) (s : ReorderState) (o : Outgoing) : Type 0 where
  pub lent : AreLentIn s (ready_states o.waiting.items)
  pub within : AreWithin (length o.made.items) o.waiting.items
  pub placed : places o.waiting.items ≡ o.placed
  pub from : o.from ≤ o.to
  pub to : o.to ≤ length o.frames.items
  pub room : HasRoom o
  pub sent : AreSelected selection (reverse o.relations_sent.items)
  pub capacity : 0 < length o.waiting.items → length (selected_oids selection) ≤ vec_capacity o.relations_sent
  pub some : AllByRecursion (λ (ready : ReadyState). 0 < length ready.places) (ready_states o.waiting.items)

-- The same is held, and will have been sent, by other means.
pub record HoldsSame (selection : PublicationSet) (s s' : ReorderState) (o o' : Outgoing) : Type 0 where
  pub good : IsOutgoing selection s' o'
  pub held : held_of selection s' o' ≡ held_of selection s o
  pub sent : sent_of selection s' o' ≡ sent_of selection s o
  pub settled : settled_of s' o' ≡ settled_of s o
  pub lent : AreLastOf (lent_of s' o') (lent_of s o)

-- Blocks of these transactions came after what was held, or, where memory was refused, nothing.
pub record Grows (selection : PublicationSet) (clock : ℤ) (ts : List Published) (result : Result (Unit {0}) AllocError) (s s' : ReorderState) (o o' : Outgoing) : Type 0 where
  pub good : IsOutgoing selection s' o'
  pub held : OnOk result (held_of selection s' o' ≡ held_of selection s o ++ bytes_of_items (relation selection) (sent_of selection s o) (map (Block clock) ts))
  pub sent : OnOk result (sent_of selection s' o' ≡ relations_sent_through (sent_of selection s o) ts)
  pub err : OnErr result (held_of selection s' o' ≡ held_of selection s o)

-- ---- WHAT A CALL DOES TO THE FIELDS

-- the frames are as they were, or there is room for them now, and there was none
abbrev pub IsSized : Outgoing → Outgoing → Type 0
IsSized o o' = (o'.frames.items ≡ o.frames.items) ⊎ ((length o.frames.items ≡ 0) × (length o'.frames.items ≡ FRAMES_LENGTH))

-- what waits, and what was sent, is as it was
pub record IsSameQueue (o o' : Outgoing) : Type 0 where
  pub front : o'.front.items ≡ o.front.items
  pub from : o'.from ≡ o.from
  pub to : o'.to ≡ o.to
  pub waiting : o'.waiting.items ≡ o.waiting.items
  pub placed : o'.placed ≡ o.placed
  pub sent : o'.relations_sent.items ≡ o.relations_sent.items
  pub capacity : vec_capacity o.relations_sent ≤ vec_capacity o'.relations_sent

-- These bytes were added to those that are made, or, where memory was refused, none.
pub record AddsBytes (bytes : List ℕ) (result : Result (Unit {0}) AllocError) (o o' : Outgoing) : Type 0 where
  pub ok : OnOk result ((o'.made.items ≡ o.made.items ++ bytes) × (0 < length o'.frames.items))
  pub err : OnErr result (o'.made.items ≡ o.made.items)
  pub frames : IsSized o o'
  pub rest : IsSameQueue o o'

-- nothing was added
pub record StaysQueued (o o' : Outgoing) : Type 0 where
  pub made : o'.made.items ≡ o.made.items
  pub frames : IsSized o o'
  pub rest : IsSameQueue o o'

-- A transaction waits after all others and after its Begin.
pub record Queues (selection : PublicationSet) (ready : ReadyState) (clock : ℤ) (header : Header) (o o' : Outgoing) : Type 0 where
  pub before : ℕ
  pub place : before + o.placed ≡ length (o.made.items ++ begin_bytes clock header)
  pub made : o'.made.items ≡ o.made.items ++ begin_bytes clock header
  pub waiting : o'.waiting.items ≡ o.waiting.items ++ record { ready = ready; next = 0; header = header; clock = clock; before = before } ∷ []
  pub placed : o'.placed ≡ o.placed + before
  pub room : 0 < length o'.frames.items
  pub frames : IsSized o o'
  pub front : o'.front.items ≡ o.front.items
  pub from : o'.from ≡ o.from
  pub to : o'.to ≡ o.to
  pub sent : o'.relations_sent.items ≡ o.relations_sent.items
  pub capacity : length (selected_oids selection) ≤ vec_capacity o'.relations_sent

-- frames were made after those that there were
pub record IsFilled (o o' : Outgoing) : Type 0 where
  pub front : o'.front ≡ o.front
  pub from : o'.from ≡ o.from
  pub low : o.to ≤ o'.to
  pub high : o'.to ≤ length o'.frames.items
  pub size : length o'.frames.items ≡ length o.frames.items

-- So many bytes were moved out, from the front of what was held.
pub record MovesOut (selection : PublicationSet) (count : ℕ) (s s' : ReorderState) (o o' : Outgoing) : Type 0 where
  pub good : IsOutgoing selection s' o'
  pub held : held_of selection s' o' ≡ drop count (held_of selection s o)
  pub sent : sent_of selection s' o' ≡ sent_of selection s o
  pub settled : settled_of s' o' ≡ settled_of s o
  pub lent : AreLastOf (lent_of s' o') (lent_of s o)

-- Whatever was taken, a chunk is free beside those of the transactions in progress and of what is lent.
abbrev pub HasFreeChunk : ReorderState → Type 0
HasFreeChunk s =
    (rs : List Record) (ws : List ReadyState) (count : ℕ) → HasTaken s rs → AreLentIn s ws → IsTidy count [] (after_giving_all_back s ws).strands → live_chunks rs + lent_chunks s ws < count

-- Whatever was taken, the transactions in progress leave a chunk.
abbrev pub LeavesChunk : ReorderState → Outgoing → Type 0
LeavesChunk s o = (rs : List Record) (count : ℕ) → HasTaken (settled_of s o) rs → IsTidy count [] (settled_of s o).strands → live_chunks rs < count
