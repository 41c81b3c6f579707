-- That a stream crosses from one thread of a connection to the other, and what a closure needs that shares a hub.
use mir.Syntax.{Sym}
use mathlib.Core.List.{List, [], ◌∷◌}
use denote.RattleType.{RattleType}
use denote.Struct.Field.{row_field}
use denote.Struct.Tuple.{TupleAt, type_at, parts}
use denote.Param.Send.{IsSend, IsSync, AllSend, sendable, view_send}
use denote.Param.SendFields.{FieldsHave, declared_send, declared_sync, as_row_send}
use Rattle.std.specs.contracts.alloc.Global as Heap
use Rattle.std.specs.contracts.boxed.Box as Box
use Rattle.std.specs.contracts.impls.GlobalAllocator.TheImpl.{ghosts}
use Rattle.std.proofs.Crossing as heap
use Rattle.shared_log.specs.declared.histories.name.LogName as log_name
use Rattle.shared_log.proofs.following.reader.LogReader.TheSendSync as reader
use Rattle.slots.specs.declared.rule.SlotName as slot_name
use Rattle.reorder.proofs.reorder.Reorder.TheSendSync as reorder
use Rattle.walsender.proofs.held.outgoing.Outgoing.TheSendSync as outgoing
use Rattle.walsender.specs.contracts.sender.Sender as sender
use Rattle.walsender.specs.contracts.sender.Sender.TheInside as inside
use Rattle.walsender.specs.contracts.walsender.Walsender as walsender
use Rattle.connections.specs.contracts.connection_mailbox.ConnectionMailbox as mailbox
use Rattle.connections.proofs.Crossing.{arrival_sync, hold_send, inbox_send}
use Rattle.server_state.proofs.Crossing.{server_state_sync, selection_send}
use Rattle.hub.specs.contracts.stream.new_stream.NewStream as new_stream
use Rattle.hub.specs.contracts.stream.streaming.Stream as stream
use Rattle.hub.specs.contracts.hub.Hub as hub

-- ---- closures, by what they capture
captured : (Ts : List RattleType) → AllSend Ts → FieldsHave IsSend (parts Ts)
captured [] s = tt
captured (T ∷ Ts) s = (as_row_send (row_field T) s.0, captured Ts s.1)

pub closure_send : (name : Sym) (Ts : List RattleType) → AllSend Ts → IsSend (TupleAt name Ts)
closure_send name Ts s = declared_send (type_at name Ts) (captured Ts s)

pub both : {A B : Type 0} → A → B → A × B
both a b = (a, b)

-- ---- the sender of a stream
pub sender_send : IsSend sender.the_row
sender_send = view_send _ _ _ _ _ (declared_send inside.the_type (selection_send, (search sendable, (search sendable, (reorder.the_send, (outgoing.the_send, (search (heap.crosses, sendable) depth 10, (search sendable, tt))))))))

-- ---- at the names of a log and its slots
module _ (L : RattleType) (s : slot_name.Ghosts L.Denot) (l : log_name.Ghosts L.Denot) where
  walsender_send : IsSend (walsender.the_row L l)
  walsender_send = declared_send (walsender.the_type L l) (sender_send, (reader.the_send L l, tt))

  stream_send : IsSend (stream.the_row L s l)
  stream_send = declared_send (stream.the_type L s l) (search sendable, (walsender_send, (hold_send L s, (search sendable, (search sendable, (search sendable, (search sendable, (search sendable, tt))))))))

  -- a stream in memory of its own
  abbrev boxed : RattleType
  boxed = Box.the_row (stream.the_row L s l) Heap.the_row ghosts

  boxed_send : IsSend boxed
  boxed_send = search (stream_send, heap.crosses, sendable) depth 10

  -- one of which nothing was written
  abbrev begun : RattleType
  begun = new_stream.the_row L s l

  begun_send : IsSend begun
  begun_send = declared_send (new_stream.the_type L s l) (boxed_send, tt)

  -- what the two threads of a connection have in common
  pub mailbox_sync : IsSync (mailbox.the_row begun)
  mailbox_sync = declared_sync (mailbox.the_type begun) (
    heap.sync,
    (
      search (inbox_send, heap.crosses, sendable) depth 10,
      (search (begun_send, heap.crosses, sendable) depth 10, (search (heap.crosses, sendable) depth 10, (search (heap.crosses, sendable) depth 10, tt))),
    ),
  )

  pub hub_sync : IsSync (hub.the_row L s l)
  hub_sync = declared_sync (hub.the_type L s l) (server_state_sync L s l, tt)

-- what a closure needs that shares a hub, as a set for `search`
pub ruleset crosses = (closure_send, both, hub_sync, sendable)

-- what those need that serve from it
pub ruleset serves = (closure_send, both, server_state_sync, mailbox_sync, arrival_sync, sendable)
