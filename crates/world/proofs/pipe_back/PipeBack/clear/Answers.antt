use Rattle.world.proofs.PipeBytes.{holds_none}
use Rattle.world.proofs.pipe_back.PipeBack.clear.Goals as goal

pub invariant_of-self : goal.invariant_of-self
invariant_of-self c = rw c.clear.ensures.items holds_none.pipe

pub returns : goal.returns
returns c = rw c.clear.ensures.items holds_none.read
