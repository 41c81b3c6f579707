use Rattle.std.proofs.net.tcp.TcpListener.TheSendSync as listener
use Rattle.hub.proofs.Crossing.{crosses}
use Rattle.hub.proofs.service_hub.serve_beside.Goals as goal

pub join-served-requires-send-F : goal.join-served-requires-send-F
join-served-requires-send-F g c κs within = search (crosses, listener.the_sync) depth 40
