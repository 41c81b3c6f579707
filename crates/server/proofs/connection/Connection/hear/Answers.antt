use Rattle.server.specs.Segment.{HasCause}
use Rattle.server.proofs.Segments.{went-on}
use Rattle.server.proofs.connection.Connection.hear.Goals as goal

pub loop-preserved : goal.loop-preserved
loop-preserved g c = went-on g.D.Backend.told HasCause c.args.bytes.now c.args.self.now c.args.backend.now c.args.out.now.items c.loop.self c.loop.backend c.loop.out.items c.step.new.self c.step.new.backend c.step.new.out.items c.loop.invariant c.in_ok-step.ensures.went

pub returns-clause-went : goal.returns-clause-went
returns-clause-went g c = went-on g.D.Backend.told HasCause c.args.bytes.now c.args.self.now c.args.backend.now c.args.out.now.items c.loop.self c.loop.backend c.loop.out.items c.step.new.self c.step.new.backend c.step.new.out.items c.loop.invariant c.in_ok-step.ensures.went
