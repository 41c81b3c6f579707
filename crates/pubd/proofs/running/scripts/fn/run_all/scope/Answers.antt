use Rattle.std.proofs.sync.atomic.AtomicBool.TheSendSync as flag
use Rattle.hub.proofs.Crossing.{crosses}
use Rattle.pubd.proofs.running.ending.ListenerHandles.TheSendSync as listeners
use Rattle.pubd.proofs.scripting.file.Script.TheSendSync as script
use Rattle.pubd.proofs.standard_error.error_log.ErrorLog.TheSendSync as told
use Rattle.pubd.proofs.running.scripts.fn.run_all.scope.Goals as goal

pub spawn-spawned-requires-send-F : goal.spawn-spawned-requires-send-F
spawn-spawned-requires-send-F g c κs within = search (crosses, script.the_sync, listeners.the_sync, told.the_sync, flag.the_sync) depth 40
