use Rattle.hub.proofs.Crossing.{serves}
use Rattle.hub.proofs.serving.fn.serve.scope.Goals as goal

pub spawn-spawned-requires-send-F : goal.spawn-spawned-requires-send-F
spawn-spawned-requires-send-F g c κs within = let asked = c.requires in search (serves, asked) depth 40
