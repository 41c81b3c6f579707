-- How far a run confirms a slot: the greatest of the log's end where it was created and, over the statuses that were
-- acknowledged to it, the lesser of the flushed position and what the sender had read by then.
use Rattle.std.specs.Prelude.{ℕ, max, min, List, [], ◌∷◌, Option, Some, None, option_map, if◌then◌else◌}
use Rattle.std.specs.Str.{bytes_eq}
use Rattle.copyboth.specs.declared.status.Status.{Status}
use Rattle.slots.specs.State.{SlotsState, slot_of}
use Rattle.txlog.specs.Publishing.{log_end}
use Rattle.schedule.specs.declared.event.Event.{Event}
use Rattle.schedule.specs.declared.event.Event.TheVariants as events
use Rattle.schedule.specs.declared.event.ConnectionStep.TheVariants as steps
use Rattle.world.specs.declared.printed.answer.Answer.{Answer}
use Rattle.world.specs.declared.printed.answer.Answer.TheVariants as answers
use Rattle.world.specs.Start.{StartState}
use Rattle.world.specs.State.{SubscriberState, WorldState, open_start, subscriber_of}
use Rattle.world.specs.Steps.{IsRun}

-- the confirmed position of the slot of this name, if there is one
abbrev pub confirmed_at : List ℕ → SlotsState → Option ℕ
confirmed_at name slots = option_map (λ s. s.confirmed) (slot_of name slots.slots)

-- the flushed position of the next status, cut to what the sender has read
abbrev pub next_told_position : ℕ → List Status → Option ℕ
next_told_position read [] = None
next_told_position read (status ∷ rest) = Some (min status.flushed read)

-- what a connection's next status tells the slot of this name, if the connection streams from it
abbrev pub told_if : List ℕ → Option (List ℕ) → Option ℕ → Option ℕ
told_if name None told = None
told_if name (Some slot) told = if bytes_eq slot name then told else None

abbrev pub told_to : List ℕ → Option StartState → Option SubscriberState → Option ℕ
told_to name (Some start) (Some s) = told_if name s.slot (next_told_position start.position s.back)
told_to name start s = None

abbrev pub raised_by : Option ℕ → ℕ → ℕ
raised_by None confirmed = confirmed
raised_by (Some told) confirmed = max confirmed told

-- what an event makes of it: nothing but an acknowledgement raises it, and nothing sets it back
abbrev pub confirmed_after : List ℕ → WorldState → Event → Answer → Option ℕ → Option ℕ
confirmed_after name w (events.Slot created) answers.Done known = if bytes_eq created name then Some (log_end w.publisher) else known
confirmed_after name w (events.Connection c steps.Ack) answer known = option_map (raised_by (told_to name (open_start c w.starts) (subscriber_of c w.subscribers))) known
confirmed_after name w event answer known = known

-- and what a run makes of it
abbrev pub confirmed_through : List ℕ → (old : WorldState) (es : List Event) (given : List Answer) (new : WorldState) → IsRun old es given new → Option ℕ → Option ℕ
confirmed_through name old [] [] new run known = known
confirmed_through name old (e ∷ es) (a ∷ given) new run known = confirmed_through name run.0 es given new run.2 (confirmed_after name old e a known)
confirmed_through name old [] (a ∷ given) new run known = known
confirmed_through name old (e ∷ es) [] new run known = known
