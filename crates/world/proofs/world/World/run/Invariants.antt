use Rattle.std.proofs.Common.{◌≡◌, length, take}
use Rattle.std.specs.Prelude.{◌≤◌, vec_capacity}
use Rattle.world.specs.State.{new_world}
use Rattle.world.specs.Machine.{IsMachine, world_of}
use Rattle.world.specs.Steps.{IsRun}
use Rattle.world.proofs.world.World.run.Given as goal

abbrev pub invariant-loop-event : goal.invariant-loop-event
invariant-loop-event g l = record {
  machine : IsMachine l.machine;
  run : IsRun (new_world l.fn.config) (take l.event-index l.events) l.answers.items (world_of l.machine);
  count : length l.answers.items ≡ l.event-index;
  room : length l.events ≤ vec_capacity l.answers;
}
