use Rattle.world.proofs.PipeBytes.{waits}
use Rattle.world.proofs.pipe_back.PipeBack.is_waiting.Goals as goal

pub returns : goal.returns
returns c = rw (c.is_empty.ensures, ← c.self.view_is) (waits c.self.inside.bytes.items c.self.invariant)
