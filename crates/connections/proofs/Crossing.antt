-- What crosses between the threads of a server, and what they share.
use denote.RattleType.{RattleType}
use denote.Param.Send.{IsSend, IsSync, sendable}
use denote.Param.SendFields.{declared_send, declared_sync}
use Rattle.std.proofs.Crossing as heap
use Rattle.std.proofs.net.tcp.TcpStream.TheSendSync as socket
use Rattle.bytes.proofs.unique.BytesMut.TheSendSync as buffer
use Rattle.pqformat.proofs.text.Text.TheSendSync as text
use Rattle.server.proofs.connection.Phase.TheSendSync as phase
use Rattle.slots.specs.declared.rule.SlotName as slot_name
use Rattle.slots.proofs.lease.Lease.TheSendSync as lease
use Rattle.slots.proofs.seat.SlotSeat.TheSendSync as seat
use Rattle.connections.proofs.fault.ConnectionEnd.TheSendSync as end
use Rattle.connections.proofs.fault.ConnectionRefusal.TheSendSync as unserved
use Rattle.connections.proofs.slot.slot_keeping.SlotKeeping.TheSendSync as keeping
use Rattle.connections.specs.contracts.socket.arrival.Arrival as arrival
use Rattle.connections.specs.contracts.socket.arrival.Arriving as arriving
use Rattle.connections.specs.contracts.slot.hold.Hold as hold
use Rattle.connections.specs.contracts.inbox.Inbox as inbox
use Rattle.connections.specs.contracts.slot.latch.Latch as latch
use Rattle.connections.specs.contracts.slot.slot_snapshot.SlotSnapshot as known
use Rattle.connections.specs.contracts.slot.slot_monitor.SlotMonitor as monitor
use Rattle.connections.specs.contracts.socket.sockets.ServedSocket as served
use Rattle.connections.specs.contracts.socket.sockets.Sockets as sockets

-- ---- the parts that have no name in their types
pub inbox_send : IsSend inbox.the_row
inbox_send = declared_send inbox.the_type (
  search (buffer.the_send, heap.send, heap.sync, heap.frees, sendable) depth 10,
  (search sendable depth 10, (search sendable, (search sendable, (phase.the_send, (search sendable, (search sendable, (search (end.the_send, sendable) depth 10, (search sendable, tt)))))))),
)

arriving_send : IsSend arriving.the_row
arriving_send = declared_send arriving.the_type (search (socket.the_send, sendable) depth 10, (unserved.the_send, (search sendable, tt)))

pub arrival_sync : IsSync arrival.the_row
arrival_sync = declared_sync arrival.the_type (search (arriving_send, heap.crosses, sendable) depth 20, (search (heap.crosses, sendable) depth 10, tt))

pub latch_sync : IsSync latch.the_row
latch_sync = declared_sync latch.the_type (search (heap.crosses, sendable) depth 20, (search (heap.crosses, sendable) depth 10, tt))

known_send : IsSend known.the_row
known_send = declared_send known.the_type (
  search sendable,
  (search (text.the_send, sendable) depth 10, (search sendable, (search sendable depth 10, (search sendable, (search sendable, (search sendable, (search sendable, (search sendable, (search sendable depth 20, (search sendable depth 10, (search sendable depth 30, (search sendable depth 20, (search sendable, (search sendable, (search sendable, (keeping.the_send, (search sendable, tt))))))))))))))))),
)

pub monitor_sync : IsSync monitor.the_row
monitor_sync = declared_sync monitor.the_type (search (known_send, heap.crosses, sendable) depth 20, (search (heap.crosses, sendable) depth 10, tt))

served_send : IsSend served.the_row
served_send = declared_send served.the_type (search sendable, (socket.the_send, (search sendable, tt)))

pub sockets_sync : IsSync sockets.the_row
sockets_sync = declared_sync sockets.the_type (search (served_send, heap.crosses, sendable) depth 20, (search (heap.crosses, sendable) depth 10, tt))

-- ---- at the names of slots
module _ (L : RattleType) (s : slot_name.Ghosts L.Denot) where
  pub hold_send : IsSend (hold.the_row L s)
  hold_send = declared_send (hold.the_type L s) (seat.the_send L s, (lease.the_send L s, tt))
