-- Slots in a world: creating one, the statuses that subscribers send back, and what acknowledging one does.
use Rattle.std.specs.Prelude.{◌≡◌, ◌∷◌, ◌++◌, ℕ, ℤ, [], true, false, min, Bool, List, Option, Some, None}
use Rattle.slots.specs.State.{IsRefusalOrMemory, create_refusal, slots_after_create, slots_after_refusal}
use Rattle.slots.specs.Words.{slots_after_confirming}
use Rattle.txlog.specs.Publishing.{log_end}
use Rattle.copyboth.specs.declared.status.Status.{Status}
use Rattle.world.specs.declared.printed.answer.Answer.{Answer}
use Rattle.world.specs.declared.printed.answer.Answer.TheVariants as answers
use Rattle.world.specs.Start.{StartState}
use Rattle.world.specs.State.{SubscriberState, WorldState, open_start, subscriber_of, with_subscriber}

-- a slot is created at the end of the log
abbrev pub Creates : List ℕ → WorldState → Answer → WorldState → Type 0
Creates name old answers.Done new = (create_refusal name old.slots ≡ None) × (new ≡ record old { slots = slots_after_create name (log_end old.publisher) old.slots })
Creates name old (answers.Slot fault) new = IsRefusalOrMemory (create_refusal name old.slots) fault × (new ≡ record old { slots = slots_after_refusal fault old.slots })
Creates name old answer new = ⊥

-- ---- Statuses.

-- What a subscriber at this position tells that it has written, flushed and applied; a line may name another number as what it
-- has flushed.
abbrev pub status_with : Option ℕ → ℤ → ℕ → Status
status_with None clock position = record { written = position; flushed = position; applied = position; clock = clock; ask = false }
status_with (Some flushed) clock position = record { written = position; flushed = flushed; applied = position; clock = clock; ask = false }

-- the subscriber of a connection that has a sender puts a status into the pipe back
pub record PutsBack (connection : List ℕ) (status : ℕ → Status) (old : WorldState) (answer : Answer) (new : WorldState) : Type 0 where
  pub start : StartState
  pub there : open_start connection old.starts ≡ Some start
  pub before : SubscriberState
  pub known : subscriber_of connection old.subscribers ≡ Some before
  pub done : answer ≡ answers.Done
  pub is : new ≡ record old { subscribers = with_subscriber connection (record before { back = before.back ++ status before.applier.subscriber.position ∷ [] }) old.subscribers }

-- ---- Acknowledging.

-- The publisher takes the next status from the pipe back. Its flushed position is cut to what the sender has read.
pub record Acknowledges (connection : List ℕ) (old : WorldState) (answer : Answer) (new : WorldState) : Type 0 where
  pub start : StartState
  pub there : open_start connection old.starts ≡ Some start
  pub before : SubscriberState
  pub known : subscriber_of connection old.subscribers ≡ Some before
  pub status : Status
  pub rest : List Status
  pub waits : before.back ≡ status ∷ rest
  pub done : answer ≡ answers.Done
  pub is : new ≡ record old { slots = slots_after_confirming before.slot (min status.flushed start.position) old.slots; subscribers = with_subscriber connection (record before { back = rest }) old.subscribers }

-- whether a status waits
abbrev pub is_waiting : List Status → Bool
is_waiting [] = false
is_waiting (status ∷ rest) = true

abbrev pub has_status : Option SubscriberState → Bool
has_status None = false
has_status (Some s) = is_waiting s.back
