use Rattle.std.proofs.net.tcp.TcpStream.TheSendSync as socket
use Rattle.hub.proofs.Crossing.{serves}
use Rattle.hub.proofs.serving.fn.both.scope.Goals as goal

pub spawn-spawned-requires-send-F : goal.spawn-spawned-requires-send-F
spawn-spawned-requires-send-F g c κs within = search (serves, socket.the_sync) depth 40
