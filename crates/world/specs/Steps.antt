-- What an event does to the world, exactly, and what a run of events is.
use Rattle.std.specs.Prelude.{◌≡◌, ◌↔◌, ℕ, pos, Bool, true, false, ◌&&◌, not, is_some, List, [], ◌∷◌, length, take, slice_get, Option, Some, None, IsNone}
use Rattle.schedule.specs.declared.event.Event.{Event}
use Rattle.schedule.specs.declared.event.Event.TheVariants as events
use Rattle.schedule.specs.declared.event.ConnectionStep.{ConnectionStep}
use Rattle.schedule.specs.declared.event.ConnectionStep.TheVariants as steps
use Rattle.world.specs.declared.printed.answer.Answer.{Answer}
use Rattle.world.specs.declared.printed.answer.Answer.TheVariants as answers
use Rattle.world.specs.Codes.{answer_of}
use Rattle.schedule.specs.declared.session_answer.SessionAnswer.{SessionAnswer}
use Rattle.schedule.specs.declared.fault.WorldFault.{WorldFault}
use Rattle.schedule.specs.declared.fault.WorldFault.TheVariants as worlds
use Rattle.world.specs.declared.stepping.action.Action.TheVariants as actions
use Rattle.world.specs.State.{WorldState, open_start, subscriber_of}
use Rattle.schedule.specs.SessionLines.{Ask, SessionState, ask_of, IsCalled, line_takes_memory}
use Rattle.world.specs.ConnectionLines.{ActsAt, IsStart, start_refusal}
use Rattle.slots.specs.Words.{slot_named}
use Rattle.replcmd.specs.Words.{is_slot_name}
use Rattle.world.specs.Slots.{Acknowledges, Creates, PutsBack, has_status, status_with}
use Rattle.world.specs.Delivering.{Delivers}
use Rattle.world.specs.Forgetting.{Forgets}

abbrev pub session_state : WorldState → SessionState
session_state w = record { publisher = w.publisher; transactions = w.transactions }

-- a session's line makes its call, and the run answers what the line does
abbrev pub IsLineOf : Option Ask → WorldState → Answer → WorldState → Type 0
IsLineOf ask old answer new = (line : SessionAnswer) × (answer ≡ answer_of line) × IsCalled ask (session_state old) line (session_state new)

-- so it does, and changes nothing else
pub record Calls (ask : Option Ask) (old : WorldState) (answer : Answer) (new : WorldState) : Type 0 where
  pub called : IsLineOf ask old answer new
  pub is : new ≡ record old { publisher = new.publisher; transactions = new.transactions }

-- A connection's line answers this and leaves that.
abbrev pub IsStepAt : List ℕ → ConnectionStep → WorldState → Answer → WorldState → Type 0
IsStepAt c (steps.Start slot position options) old answer new = IsNone (open_start c old.starts) × IsStart c (slot_named slot) position options old answer new
IsStepAt c (steps.Read max clock) old answer new = ActsAt c (actions.Read max clock) old answer new
IsStepAt c (steps.Keepalive clock) old answer new = ActsAt c (actions.Keepalive clock) old answer new
IsStepAt c (steps.Drain n) old answer new = ActsAt c (actions.Drain n) old answer new
IsStepAt c (steps.Deliver n) old answer new = Delivers c n old answer new
IsStepAt c (steps.Status clock) old answer new = PutsBack c (status_with None clock) old answer new
IsStepAt c (steps.Flushed number) old answer new = PutsBack c (status_with (Some number) (pos 0)) old answer new
IsStepAt c steps.Ack old answer new = Acknowledges c old answer new
IsStepAt c steps.Cut old answer new = ActsAt c actions.Cut old answer new

-- The event answers this and leaves that.
abbrev pub IsStep : WorldState → Event → Answer → WorldState → Type 0
IsStep old (events.Session t step) answer new = Calls (ask_of (events.Session t step) old.publisher old.transactions) old answer new
IsStep old (events.Note prefix content) answer new = Calls (ask_of (events.Note prefix content) old.publisher old.transactions) old answer new
IsStep old (events.Connection c step) answer new = IsStepAt c step old answer new
IsStep old (events.Slot name) answer new = Creates name old answer new
IsStep old events.Forget answer new = Forgets old answer new
IsStep old events.Front answer new = (answer ≡ answers.Front old.publisher.given) × (new ≡ old)

-- A line that can't happen now: a start where the connection has a sender already, an acknowledgement where no status waits, any
-- other where the connection has no sender.
abbrev pub is_bad_at : List ℕ → ConnectionStep → WorldState → Bool
is_bad_at c (steps.Start slot position options) w = is_some (open_start c w.starts)
is_bad_at c steps.Ack w = not (is_some (open_start c w.starts) && has_status (subscriber_of c w.subscribers))
is_bad_at c step w = not (is_some (open_start c w.starts))

-- an event that can't happen now, since a name is unknown, wrongly repeated or none, or no status waits: V1
abbrev pub is_bad : Event → WorldState → Bool
is_bad (events.Session t step) w = not (is_some (ask_of (events.Session t step) w.publisher w.transactions))
is_bad (events.Note prefix content) w = false
is_bad (events.Connection c step) w = is_bad_at c step w
is_bad (events.Slot name) w = not (is_slot_name name)
is_bad events.Forget w = false
is_bad events.Front w = false

abbrev pub is_read_at : ConnectionStep → Bool
is_read_at (steps.Start slot position options) = true
is_read_at (steps.Read max clock) = true
is_read_at step = false

-- an event that reads the log, or looks where to begin in it, and so may be refused an entry: V3
abbrev pub is_read : Event → Bool
is_read (events.Connection c step) = is_read_at step
is_read events.Forget = true
is_read event = false

abbrev pub takes_memory_at : ConnectionStep → WorldState → Bool
takes_memory_at (steps.Start slot position options) w = not (is_some (start_refusal (slot_named slot) options.publications w))
takes_memory_at (steps.Read max clock) w = true
takes_memory_at (steps.Drain n) w = true
takes_memory_at (steps.Status clock) w = true
takes_memory_at (steps.Flushed number) w = true
takes_memory_at step w = false

-- an event that may be refused for memory of its own, V2: a session's line that keeps something, a start that nothing refuses, and
-- what reads, drains or puts a status into the pipe back
abbrev pub takes_memory : Event → WorldState → Bool
takes_memory (events.Session t step) w = line_takes_memory (events.Session t step) w.publisher
takes_memory (events.Connection c step) w = takes_memory_at step w
takes_memory event w = false

-- a run: the answers to the events in order, and where they lead
abbrev pub IsRun : WorldState → List Event → List Answer → WorldState → Type 0
IsRun old [] [] new = new ≡ old
IsRun old (e ∷ es) (a ∷ rest) new = (mid : WorldState) × IsStep old e a mid × IsRun mid es rest new
IsRun old events answers new = ⊥

-- These events happened with these answers, and the next did not, by this fault: V1 exactly where it could not happen, V2 only
-- where it takes memory, and V3 only where it reads the log.
pub record StopsAt (start : WorldState) (events : List Event) (answers : List Answer) (state : WorldState) (fault : WorldFault) : Type 0 where
  pub runs : IsRun start (take (length answers) events) answers state
  pub event : Event
  pub next : slice_get events (length answers) ≡ Some event
  pub bad : (fault ≡ worlds.BadEvent) ↔ (is_bad event state ≡ true)
  pub entry : fault ≡ worlds.NoEntry → is_read event ≡ true
  pub memory : fault ≡ worlds.Memory → takes_memory event state ≡ true
