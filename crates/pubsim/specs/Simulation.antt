-- Which faults of a simulation are the schedule's own.
use Rattle.std.specs.Prelude.{Bool, true, false}
use Rattle.schedule.specs.declared.fault.WorldFault.{WorldFault}
use Rattle.schedule.specs.declared.fault.WorldFault.TheVariants as worlds
use Rattle.pubsim.specs.declared.simulation.SimFault.{SimFault}
use Rattle.pubsim.specs.declared.simulation.SimFault.TheVariants as faults

abbrev pub is_bad_event : WorldFault → Bool
is_bad_event worlds.BadEvent = true
is_bad_event fault = false

-- a schedule that is no text, or has a line that can't be read or an event that can't happen
abbrev pub is_bad_schedule : SimFault → Bool
is_bad_schedule faults.NotUtf8 = true
is_bad_schedule (faults.Line line) = is_bad_event line.fault
is_bad_schedule (faults.Event event) = true
is_bad_schedule fault = false

-- the report was being written
abbrev pub is_writing : SimFault → Bool
is_writing (faults.Write e) = true
is_writing fault = false
