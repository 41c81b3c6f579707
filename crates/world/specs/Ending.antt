-- How a run ended before its events did: the world that is handed back is as the events left it that happened.
use Rattle.std.specs.Prelude.{List}
use Rattle.schedule.specs.declared.event.Event.{Event}
use Rattle.world.specs.declared.world.RunFault.{RunFault}
use Rattle.world.specs.declared.world.RunFault.TheVariants as faults
use Rattle.world.specs.State.{WorldState}
use Rattle.world.specs.Law.{Headline}
use Rattle.world.specs.Steps.{StopsAt}

abbrev pub HasStopped : {L : Type 0} → WorldState → List Event → RunFault L → Type 0
HasStopped start events faults.New = Unit {0}
HasStopped start events (faults.Step w fault) = StopsAt start events w.answers w.state fault × Headline w.state
