use Rattle.segments.proofs.Events.{event_again}
use Rattle.segments.proofs.slot_events.laws.a_slot_event_is_read_again.Goals as goal

pub returns : goal.returns
returns c = event_again
