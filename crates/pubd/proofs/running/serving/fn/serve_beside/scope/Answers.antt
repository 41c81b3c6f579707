use Rattle.std.proofs.sync.atomic.AtomicBool.TheSendSync as flag
use Rattle.hub.proofs.Crossing.{crosses}
use Rattle.pubd.proofs.running.serving.ServerParts.TheSendSync as service
use Rattle.pubd.proofs.standard_error.error_log.ErrorLog.TheSendSync as told
use Rattle.pubd.proofs.running.serving.fn.serve_beside.scope.Goals as goal

pub spawn-scripted-requires-send-F : goal.spawn-scripted-requires-send-F
spawn-scripted-requires-send-F g c κs within = search (crosses, service.the_sync, told.the_sync, flag.the_sync) depth 40

pub spawn-shown-requires-send-F : goal.spawn-shown-requires-send-F
spawn-shown-requires-send-F g c κs within = search (crosses, service.the_sync, told.the_sync) depth 40

pub spawn-watched-requires-send-F : goal.spawn-watched-requires-send-F
spawn-watched-requires-send-F g c κs within = search (crosses, service.the_sync) depth 40

pub spawn-served-requires-send-F : goal.spawn-served-requires-send-F
spawn-served-requires-send-F g c κs within = let asked = c.requires in search (crosses, service.the_sync, told.the_sync, flag.the_sync, asked) depth 40

pub serve_all-requires-send-L : goal.serve_all-requires-send-L
serve_all-requires-send-L g c κs within = let asked = c.requires in search (crosses, asked) depth 40
