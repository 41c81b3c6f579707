-- The world between two events: a publisher, its transactions in progress by name, the slots, every start of a sender with
-- what came of it, and the subscribers.
use Rattle.std.specs.Prelude.{ℕ, Bool, false, List, [], ◌∷◌, ◌++◌, drop, Option, Some, None, if◌then◌else◌}
use Rattle.std.specs.Str.{bytes_eq}
use Rattle.txlog.specs.Publishing.{PublisherState, new_publisher}
use Rattle.schedule.specs.Transactions.{NamedTx}
use Rattle.publication.specs.Publications.{PublicationSet}
use Rattle.slots.specs.State.{SlotsState, no_slots}
use Rattle.copyboth.specs.declared.status.Status.{Status}
use Rattle.client.specs.Subscriber.{subscriber_at_rest}
use Rattle.client.specs.Taking.{ApplierState}
use Rattle.world.specs.declared.printed.answer.Answer.{Answer}
use Rattle.configuration.specs.Setting.{Setting}
use Rattle.world.specs.Start.{StartState, is_open_for}

-- The subscriber of a connection, which outlives the connection's starts: the slot that its open start streams from, if any,
-- how many bytes of those that the open start has produced were delivered to it, whether ever a byte was, and the statuses in
-- the pipe back, the next one first.
pub record SubscriberState : Type 0 where
  pub connection : List ℕ
  pub slot : Option (List ℕ)
  pub applier : ApplierState
  pub delivered : ℕ
  pub has_taken : Bool
  pub back : List Status

-- the starts stand in the order in which they came, and so do the subscribers
pub record WorldState : Type 0 where
  pub publications : PublicationSet
  pub publisher : PublisherState
  pub transactions : List NamedTx
  pub slots : SlotsState
  pub starts : List StartState
  pub subscribers : List SubscriberState

-- before the first event the log is empty, and nobody is there
abbrev pub new_world : Setting → WorldState
new_world setting = record { publications = setting.publications; publisher = new_publisher setting.tables setting.server.records; transactions = []; slots = no_slots; starts = []; subscribers = [] }

-- what a world tells of itself: its state, and what each event so far answered
pub record WorldView : Type 0 where
  pub state : WorldState
  pub answers : List Answer

-- the open start of the connection
abbrev pub open_start : List ℕ → List StartState → Option StartState
open_start connection [] = None
open_start connection (s ∷ starts) = if is_open_for connection s then Some s else open_start connection starts

-- the starts, the open one of the connection replaced
abbrev pub with_open_start : List ℕ → StartState → List StartState → List StartState
with_open_start connection new [] = []
with_open_start connection new (s ∷ starts) = if is_open_for connection s then new ∷ starts else s ∷ with_open_start connection new starts

-- what a start has produced and its subscriber hasn't got yet
abbrev pub in_pipe : StartState → SubscriberState → List ℕ
in_pipe start s = drop s.delivered start.produced

-- the subscriber of the connection
abbrev pub subscriber_of : List ℕ → List SubscriberState → Option SubscriberState
subscriber_of connection [] = None
subscriber_of connection (s ∷ subscribers) = if bytes_eq s.connection connection then Some s else subscriber_of connection subscribers

-- the subscribers, that of the connection replaced
abbrev pub with_subscriber : List ℕ → SubscriberState → List SubscriberState → List SubscriberState
with_subscriber connection new [] = []
with_subscriber connection new (s ∷ subscribers) = if bytes_eq s.connection connection then new ∷ subscribers else s ∷ with_subscriber connection new subscribers

-- a subscriber has applied nothing, at position 0
abbrev pub new_subscriber : List ℕ → Option (List ℕ) → SubscriberState
new_subscriber connection slot = record { connection = connection; slot = slot; applier = record { subscriber = subscriber_at_rest 0 []; unread = []; fault = None }; delivered = 0; has_taken = false; back = [] }

-- a connection that starts has a subscriber, for good, and this slot, if any
abbrev pub if_there : Option SubscriberState → List ℕ → Option (List ℕ) → List SubscriberState → List SubscriberState
if_there None connection slot subscribers = subscribers ++ new_subscriber connection slot ∷ []
if_there (Some s) connection slot subscribers = with_subscriber connection (record s { slot = slot }) subscribers

abbrev pub with_one_for : List ℕ → Option (List ℕ) → List SubscriberState → List SubscriberState
with_one_for connection slot subscribers = if_there (subscriber_of connection subscribers) connection slot subscribers

-- Both pipes are empty, and there is no slot. The subscriber keeps its position and what it has applied, and forgets what it
-- hasn't read, its tables, a half transaction and its fault.
abbrev pub subscriber_connected_again : SubscriberState → SubscriberState
subscriber_connected_again s = record s { slot = None; applier = record { subscriber = subscriber_at_rest s.applier.subscriber.position s.applier.subscriber.applied; unread = []; fault = None }; delivered = 0; back = [] }

abbrev pub if_known_again : Option SubscriberState → List ℕ → List SubscriberState → List SubscriberState
if_known_again None connection subscribers = subscribers
if_known_again (Some s) connection subscribers = with_subscriber connection (subscriber_connected_again s) subscribers

-- the connection's subscriber reconnects
abbrev pub subscribers_after_reconnect : List ℕ → List SubscriberState → List SubscriberState
subscribers_after_reconnect connection subscribers = if_known_again (subscriber_of connection subscribers) connection subscribers

-- the slot that the connection streams from
abbrev pub slot_in : Option SubscriberState → Option (List ℕ)
slot_in None = None
slot_in (Some s) = s.slot

abbrev pub slot_of_connection : List ℕ → List SubscriberState → Option (List ℕ)
slot_of_connection connection subscribers = slot_in (subscriber_of connection subscribers)
