use Rattle.std.proofs.Common.{take, sym, arith}
use Rattle.std.proofs.lemmas.List.{take_all}
use Rattle.std.specs.List.{flat_map}
use Rattle.server.specs.Segment.{Happened, bytes_heard}
use Rattle.server.proofs.Segments.{began, began-on, unless_memory, event_more, conversed}
use Rattle.server.proofs.conversation.converse.Goals as goal

pub loop-event-preserved : goal.loop-event-preserved
loop-event-preserved g c =
    let more = event_more bytes_heard c.args.events.now c.loop-event.event-index c.event-item.result (omega arith) (sym c.event-item.is) in
    let happened = unless_memory c.happen-happened.result (Happened g.D.Backend.told c.event-item.result c.loop-event.connection c.loop-event.backend c.loop-event.out.items c.happen-happened.new.connection c.happen-happened.new.backend c.happen-happened.new.out.items) c.happen-happened.ensures (rw c.in_default.is at c.unless_memory.ensures) in
    rw more (began-on g.D.Backend.told c.args.service (flat_map bytes_heard (take c.loop-event.event-index c.args.events.now)) c.args.backend.now c.args.out.now.items c.loop-event.connection c.loop-event.backend c.loop-event.out.items c.event-item.result c.happen-happened.new.connection c.happen-happened.new.backend c.happen-happened.new.out.items c.loop-event.invariant happened)

pub loop-event-init : goal.loop-event-init
loop-event-init g c =
    let new = c.served-connection.ensures in
    began g.D.Backend.told c.args.service c.served-connection.result c.args.backend.now c.args.out.now.items new.service new.stage new.pending

pub returns : goal.returns
returns g c =
    let all = take_all c.loop-event.event-index c.args.events.now c.loop-event-test.false in
    conversed g.D.Backend.told c.args.service (flat_map bytes_heard c.args.events.now) c.args.backend.now c.args.out.now.items c.loop-event.connection c.loop-event.backend c.loop-event.out.items
    (rw all at c.loop-event.invariant)
