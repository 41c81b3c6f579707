use denote.Param.Send.{IsSend, sendable}
use Rattle.std.proofs.Crossing as heap
use Rattle.hub.proofs.Crossing.{crosses}
use Rattle.segments.proofs.segment.Segment.TheSendSync as segment
use Rattle.sqlite_disk.proofs.modelled.Modelled.TheSendSync as modelled
use Rattle.sqlite_std_file.specs.contracts.host.Host as host
use Rattle.pubd.proofs.standard_error.error_log.ErrorLog.TheSendSync as told
use Rattle.pubd.proofs.running.serving.fn.serve_kept.scope.Goals as goal

host_send : IsSend host.the_row
host_send = search sendable depth 40

pub spawn-kept-requires-send-F : goal.spawn-kept-requires-send-F
spawn-kept-requires-send-F g c κs within = search (crosses, segment.the_send, modelled.the_send, host_send, heap.crosses, told.the_sync) depth 60

pub serve_beside_all-done-requires-send-L : goal.serve_beside_all-done-requires-send-L
serve_beside_all-done-requires-send-L g c κs within = let asked = c.requires in search (crosses, asked) depth 40
