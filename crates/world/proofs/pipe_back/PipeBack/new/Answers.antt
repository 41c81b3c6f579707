use Rattle.world.proofs.PipeBytes.{holds_none}
use Rattle.world.proofs.pipe_back.PipeBack.new.Goals as goal

pub invariant_of-result : goal.invariant_of-result
invariant_of-result c = rw c.new.ensures.items holds_none.pipe

pub returns : goal.returns
returns c = rw c.new.ensures.items holds_none.read
