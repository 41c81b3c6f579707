use Rattle.std.proofs.Common.{take}
use Rattle.std.specs.List.{flat_map}
use Rattle.server.specs.Segment.{bytes_heard}
use Rattle.server.proofs.Segments.{Began}
use Rattle.server.proofs.conversation.converse.Given as goal

abbrev pub invariant-loop-event : goal.invariant-loop-event
invariant-loop-event g l = Began g.D.Backend.told l.fn.service (flat_map bytes_heard (take l.event-index l.events)) l.fn.backend l.fn.out.items l.connection l.backend l.out.items
