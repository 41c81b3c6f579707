use Rattle.world.specs.Machine.{world_of}
use Rattle.world.proofs.Machines.{called_step}
use Rattle.world.proofs.machine.Machine.step.Goals as goal

pub returns-in-Session-clause-step : goal.returns-in-Session-clause-step
returns-in-Session-clause-step g c = called_step c.args.event.now (world_of c.args.self.now) (world_of c.call.new.self) c.call.result c.call.ensures.done c.call.ensures.rest
