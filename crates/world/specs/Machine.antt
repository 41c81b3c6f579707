-- What a world shows of its parts, and what is true of them between events. No promise is told here but by `start_state`
-- and `world_of`, which say how the parts are seen.
use Rattle.std.specs.Prelude.{◌≡◌, ◌<◌, ◌≤◌, ℕ, ◌+◌, ◌==◌, Bool, true, false, List, [], ◌∷◌, ◌++◌, map, filter, not, Option, Some, None, is_some, vec_len, vec_capacity, slice_get, slice_set, String, string_bytes, if◌then◌else◌}
use Rattle.std.specs.Str.{bytes_eq}
use Rattle.indexmap.specs.IndexSet.{IndexSet, spare}
use Rattle.std.specs.List.{AllByRecursion}
use Rattle.wal.specs.declared.record.Record.{Record}
use Rattle.wal.specs.Log.{IsWellFormedLog}
use Rattle.world.specs.declared.printed.answer.Answer.{Answer}
use Rattle.world.specs.declared.stepping.action.Action.{Action}
use Rattle.world.specs.declared.stepping.start.Start.{Start}
use Rattle.world.specs.declared.subscriber.Subscriber.{Subscriber}
use Rattle.world.specs.declared.machine.Machine.{Machine}
use Rattle.world.specs.declared.limits.TheConstants.{MAX_SENDERS}
use Rattle.world.specs.Start.{StartState, is_open_for, running_count}
use Rattle.world.specs.State.{SubscriberState, WorldState, open_start, with_open_start, subscriber_of, with_subscriber}
use Rattle.shared_log.specs.declared.following.reader.LogReader.{LogReader}
use Rattle.walsender.specs.Serving.{BeginsAt}
use Rattle.world.specs.Acting.{Acts}
use Rattle.world.specs.Starts.{IsServed, is_open, start_state}

-- ---- The open ones among them.

-- the places of the open starts, counted from a number on
abbrev pub open_places : ℕ → List StartState → List ℕ
open_places at [] = []
open_places at (s ∷ starts) = if s.is_open then at ∷ open_places (at + 1) starts else open_places (at + 1) starts

abbrev pub is_for : List ℕ → Option StartState → Bool
is_for connection None = false
is_for connection (Some s) = is_open_for connection s

-- the first of these places at which an open start of the connection stands
abbrev pub place_among : List ℕ → List StartState → List ℕ → Option ℕ
place_among connection starts [] = None
place_among connection starts (p ∷ places) = if is_for connection (slice_get starts p) then Some p else place_among connection starts places

abbrev pub without_place : ℕ → List ℕ → List ℕ
without_place place places = filter (λ p. not (p == place)) places

-- where the open start of the connection stands, counted from a number on
abbrev pub start_place : ℕ → List ℕ → List StartState → Option ℕ
start_place at connection [] = None
start_place at connection (s ∷ starts) = if is_open_for connection s then Some at else start_place (at + 1) connection starts

-- the open start of the connection stands there
pub record IsOpenStartAt {L : Type 0} (connection : List ℕ) (place : ℕ) (starts : List (Start L)) : Type 0 where
  pub start : Start L
  pub there : slice_get starts place ≡ Some start
  pub opened : is_open start.stage ≡ true
  pub of : open_start connection (map start_state starts) ≡ Some (start_state start)
  pub changed : (after : StartState) → with_open_start connection after (map start_state starts) ≡ slice_set (map start_state starts) place after

-- an open start stands there
pub record IsOpenAt {L : Type 0} (place : ℕ) (starts : List (Start L)) : Type 0 where
  pub start : Start L
  pub there : slice_get starts place ≡ Some start
  pub opened : is_open start.stage ≡ true

-- what is asked of the start at a place, and of no other
pub record ActsIn {L : Type 0} (log : List Record) (place : ℕ) (action : Action) (old : List (Start L)) (answer : Answer) (new : List (Start L)) : Type 0 where
  pub before : Start L
  pub after : StartState
  pub there : slice_get old place ≡ Some before
  pub acts : Acts log action (start_state before) answer after
  pub is : map start_state new ≡ slice_set (map start_state old) place after

-- ---- Subscribers.

abbrev pub subscriber_state : Subscriber → SubscriberState
subscriber_state s = record { connection = s.connection; slot = s.slot; applier = s.applier; delivered = s.delivered; has_taken = s.has_taken; back = s.back }

-- the names of their connections, in the same order
abbrev pub AreNames : {S Z : Type 0} → IndexSet (String Z) S → List Subscriber → Type 0
AreNames names subscribers = map string_bytes names.keys ≡ map (λ s. s.connection) subscribers

-- where the subscriber of the connection stands, counted from a number on
abbrev pub subscriber_place : ℕ → List ℕ → List SubscriberState → Option ℕ
subscriber_place at connection [] = None
subscriber_place at connection (s ∷ subscribers) = if bytes_eq s.connection connection then Some at else subscriber_place (at + 1) connection subscribers

-- the subscriber of the connection stands there
pub record IsSubscriberAt (connection : List ℕ) (place : ℕ) (subscribers : List Subscriber) : Type 0 where
  pub subscriber : Subscriber
  pub there : slice_get subscribers place ≡ Some subscriber
  pub of : subscriber_of connection (map subscriber_state subscribers) ≡ Some (subscriber_state subscriber)
  pub changed : (after : SubscriberState) → with_subscriber connection after (map subscriber_state subscribers) ≡ slice_set (map subscriber_state subscribers) place after

-- the connection of a start has a subscriber
abbrev pub IsSubscribed : List SubscriberState → StartState → Type 0
IsSubscribed subscribers s = is_some (subscriber_of s.connection subscribers) ≡ true

-- ---- The machine.

abbrev pub world_of : {L : Type 0} → Machine L → WorldState
world_of m = record { publications = m.publications; publisher = m.publisher; transactions = m.sessions; slots = m.slots; starts = map start_state m.starts.items; subscribers = map subscriber_state m.subscribers.items }

-- there is room for one more start
pub record HasRoom {L : Type 0} (m : Machine L) : Type 0 where
  pub starts : vec_len m.starts < vec_capacity m.starts
  pub opened : vec_len m.opened < vec_capacity m.opened
  pub subscribers : vec_len m.subscribers < vec_capacity m.subscribers
  pub names : 0 < spare m.names

-- the reader that the next start takes was resumed for its start position, and stands there
abbrev pub IsResumed : {L : Type 0} → ℕ → ℕ → Machine L → Type 0
IsResumed {L} start first m = (others : List (LogReader L)) (reader : LogReader L) → m.readers.items ≡ others ++ reader ∷ [] → BeginsAt m.publisher.log start first reader.place

-- The log is one, each start has read it up to its place, the open ones are found, and each has a subscriber; these are found by their
-- names. Each reader serves an open start or stands in the pool, which has room for them all.
pub record IsMachine {L : Type 0} (m : Machine L) : Type 0 where
  pub good : IsWellFormedLog m.publisher.log
  pub served : AllByRecursion (IsServed m.publisher.log) m.starts.items
  pub found : m.opened.items ≡ open_places 0 (map start_state m.starts.items)
  pub subscribed : AllByRecursion (IsSubscribed (map subscriber_state m.subscribers.items)) (map start_state m.starts.items)
  pub named : AreNames m.names m.subscribers.items
  pub readers : vec_len m.readers + running_count (map start_state m.starts.items) ≡ MAX_SENDERS
  pub room : MAX_SENDERS ≤ vec_capacity m.readers
