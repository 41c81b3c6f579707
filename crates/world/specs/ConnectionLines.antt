-- What a connection's line does to its sender.
use Rattle.std.specs.Prelude.{◌≡◌, ◌<◌, ◌≤◌, ◌==◌, ℕ, List, [], ◌∷◌, ◌++◌, Option, Some, None, if◌then◌else◌}
use Rattle.publication_config.specs.declared.fault.PubFault.TheVariants as pubs
use Rattle.publication.specs.Publications.{PublicationSet}
use Rattle.publication.specs.Choosing.{conflicts, selected_publications, is_unknown}
use Rattle.world.specs.declared.printed.answer.Answer.{Answer}
use Rattle.schedule.specs.declared.lines.start_options.StartOptions.{StartOptions}
use Rattle.world.specs.declared.printed.answer.Answer.TheVariants as answers
use Rattle.world.specs.declared.stepping.action.Action.{Action}
use Rattle.world.specs.declared.stepping.action.Action.TheVariants as actions
use Rattle.slots.specs.State.{SlotsState}
use Rattle.slots.specs.declared.fault.SlotFault.TheVariants as slot_faults
use Rattle.world.specs.Start.{StartState, running_count}
use Rattle.world.specs.State.{SubscriberState, WorldState, open_start, with_open_start, with_one_for, subscribers_after_reconnect, slot_of_connection}
use Rattle.slots.specs.Words.{is_held, is_missing, slots_after_letting_go, slots_after_taking, start_from}
use Rattle.wal.specs.Restart.{restart, restart_place}
use Rattle.world.specs.Acting.{Acts, new_start}
use Rattle.world.specs.declared.limits.TheConstants.{MAX_SENDERS}

-- where the connection is cut, its subscriber reconnects
abbrev pub subscribers_after : List ℕ → Action → List SubscriberState → List SubscriberState
subscribers_after connection actions.Cut subscribers = subscribers_after_reconnect connection subscribers
subscribers_after connection action subscribers = subscribers

-- and its slot is free again
abbrev pub slots_after : List ℕ → Action → List SubscriberState → SlotsState → SlotsState
slots_after connection actions.Cut subscribers slots = slots_after_letting_go (slot_of_connection connection subscribers) slots
slots_after connection action subscribers slots = slots

-- what is asked of the connection's sender, and of nothing else
pub record ActsAt (connection : List ℕ) (action : Action) (old : WorldState) (answer : Answer) (new : WorldState) : Type 0 where
  pub before : StartState
  pub after : StartState
  pub there : open_start connection old.starts ≡ Some before
  pub acts : Acts old.publisher.log action before answer after
  pub is : new ≡ record old {
    slots = slots_after connection action old.subscribers old.slots;
    starts = with_open_start connection after old.starts;
    subscribers = subscribers_after connection action old.subscribers;
  }

-- ---- Starts.

-- why a start is refused, in this order: L1, P1, P2, L6 where as many senders are running as there may be, L2
abbrev pub start_refusal : Option (List ℕ) → List (List ℕ) → WorldState → Option Answer
start_refusal slot names w =
    if is_missing slot w.slots then Some (answers.Slot slot_faults.Missing)
    else if is_unknown w.publications names then Some (answers.Publication pubs.Unknown)
    else if conflicts (selected_publications w.publications names).publications then Some (answers.Publication pubs.ListConflict)
    else if running_count w.starts == MAX_SENDERS then Some answers.NoReader
    else if is_held slot w.slots then Some (answers.Slot slot_faults.InUse)
    else None

-- what is selected for a start with these options
abbrev pub wanted_of : StartOptions → PublicationSet → PublicationSet
wanted_of options publications = record (selected_publications publications options.publications) { messages = options.messages }

-- what a start leaves that isn't refused: its sender reads the log from its restart position on
abbrev pub world_after_start : List ℕ → Option (List ℕ) → ℕ → StartOptions → WorldState → WorldState
world_after_start connection slot position options w = record w {
  slots = slots_after_taking slot w.slots;
  starts = w.starts ++ new_start connection (wanted_of options w.publications) (start_from slot position w.slots) (restart (start_from slot position w.slots) w.publisher.log) ∷ [];
  subscribers = with_one_for connection slot w.subscribers;
}

-- what the start would read was not given back
abbrev pub IsKept : Option (List ℕ) → ℕ → WorldState → Type 0
IsKept slot position w = w.publisher.given ≤ restart_place (start_from slot position w.slots) w.publisher.log

-- P7 where memory was refused for what the publications select, and L9 where records that the start needs were given back; nothing else
-- refuses the start then
abbrev pub IsStart : List ℕ → Option (List ℕ) → ℕ → StartOptions → WorldState → Answer → WorldState → Type 0
IsStart connection slot position options old answers.Done new = (start_refusal slot options.publications old ≡ None) × IsKept slot position old × (new ≡ world_after_start connection slot position options old)
IsStart connection slot position options old answers.Removed new = (start_refusal slot options.publications old ≡ None) × (0 < old.publisher.given) × (new ≡ old)
IsStart connection slot position options old (answers.Publication pubs.Memory) new = (start_refusal slot options.publications old ≡ None) × (new ≡ old)
IsStart connection slot position options old answer new = (start_refusal slot options.publications old ≡ Some answer) × (new ≡ old)
