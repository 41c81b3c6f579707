use Rattle.world.proofs.Machines.{all_grown}
use Rattle.world.proofs.machine.Machine.call.Goals as goal

pub returns-clause-machine : goal.returns-clause-machine
returns-clause-machine g c = record {
  good = c.line.ensures.grows.good c.requires.machine.good;
  served = all_grown c.args.self.now.publisher.log c.line.new.publisher.log c.args.self.now.starts.items c.line.ensures.grows c.requires.machine.served;
  found = c.requires.machine.found;
  subscribed = c.requires.machine.subscribed;
  named = c.requires.machine.named;
  readers = c.requires.machine.readers;
  room = c.requires.machine.room;
}
