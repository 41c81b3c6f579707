-- Exactly once. Of what its publications publish from where its slot was created on, a subscriber has applied a beginning, and in it
-- all that commits below its own position: each transaction once, whatever was cut, lost, late or sent again. Its slot is confirmed
-- no further than it is. A note counts as a transaction that commits where it starts.
use Rattle.std.specs.Prelude.{◌≡◌, ◌≤◌, ℕ, max, List, [], ◌∷◌, ◌++◌, take, Option, Some, None, if◌then◌else◌}
use Rattle.std.specs.List.{AllByRecursion}
use Rattle.std.specs.Str.{bytes_eq}
use Rattle.publication.specs.Selection.{relation}
use Rattle.pgoutput.specs.declared.published.Published.{Published}
use Rattle.pgoutput.specs.Items.{Item, bytes_of_items}
use Rattle.walsender.specs.Published.{published_transactions}
use Rattle.client.specs.Subscriber.{subscriber_at_rest}
use Rattle.client.specs.Law.{GainedAll}
use Rattle.txlog.specs.Publishing.{log_end}
use Rattle.schedule.specs.declared.lines.start_options.StartOptions.{StartOptions}
use Rattle.schedule.specs.declared.event.Event.{Event}
use Rattle.schedule.specs.declared.event.Event.TheVariants as events
use Rattle.schedule.specs.declared.event.ConnectionStep.{ConnectionStep}
use Rattle.schedule.specs.declared.event.ConnectionStep.TheVariants as steps
use Rattle.world.specs.declared.printed.answer.Answer.{Answer}
use Rattle.world.specs.declared.printed.answer.Answer.TheVariants as answers
use Rattle.slots.specs.Words.{slot_named}
use Rattle.world.specs.Start.{StartState}
use Rattle.world.specs.State.{SubscriberState, WorldState, open_start, subscriber_of}
use Rattle.world.specs.Confirming.{confirmed_at}
use Rattle.world.specs.ConnectionLines.{wanted_of}
use Rattle.world.specs.Steps.{IsRun}

-- before its first start a subscriber is at 0 and has applied nothing
abbrev pub position_in : Option SubscriberState → ℕ
position_in None = 0
position_in (Some s) = s.applier.subscriber.position

abbrev pub applied_in : Option SubscriberState → List Published
applied_in None = []
applied_in (Some s) = s.applier.subscriber.applied

abbrev pub position_of : List ℕ → WorldState → ℕ
position_of c w = position_in (subscriber_of c w.subscribers)

abbrev pub applied_by : List ℕ → WorldState → List Published
applied_by c w = applied_in (subscriber_of c w.subscribers)

-- ---- What is asked of the lines, for the subscriber of the connection c that follows the slot s by these options.

-- Each start of c names the slot and has the options, and asks for no more than c's position. No other connection starts on the slot.
-- What a line has c tell as flushed is no more than its position.
abbrev pub IsFairAt : List ℕ → List ℕ → StartOptions → WorldState → List ℕ → ConnectionStep → Type 0
IsFairAt c s wanted w d (steps.Start slot position options) =
    (d ≡ c → (slot_named slot ≡ Some s) × (options ≡ wanted) × (position ≤ position_of c w)) × ((d ≡ c → ⊥) → slot_named slot ≡ Some s → ⊥)
IsFairAt c s wanted w d (steps.Flushed number) = d ≡ c → number ≤ position_of c w
IsFairAt c s wanted w d step = Unit {0}

abbrev pub IsFair : List ℕ → List ℕ → StartOptions → WorldState → Event → Type 0
IsFair c s wanted w (events.Connection d step) = IsFairAt c s wanted w d step
IsFair c s wanted w event = Unit {0}

-- each line of a run, in the world in which it happens
abbrev pub IsFairRun : (c s : List ℕ) (wanted : StartOptions) (old : WorldState) (es : List Event) (given : List Answer) (new : WorldState) → IsRun old es given new → Type 0
IsFairRun c s wanted old [] [] new run = Unit {0}
IsFairRun c s wanted old (e ∷ es) (a ∷ given) new run = IsFair c s wanted old e × IsFairRun c s wanted run.0 es given new run.2
IsFairRun c s wanted old [] (a ∷ given) new run = Unit {0}
IsFairRun c s wanted old (e ∷ es) [] new run = Unit {0}

-- ---- What holds then.

-- where the log ended as the slot of this name was created
abbrev pub created_after : List ℕ → WorldState → Event → Answer → Option ℕ → Option ℕ
created_after name w (events.Slot created) answers.Done known = if bytes_eq created name then Some (log_end w.publisher) else known
created_after name w event answer known = known

abbrev pub created_through : List ℕ → (old : WorldState) (es : List Event) (given : List Answer) (new : WorldState) → IsRun old es given new → Option ℕ → Option ℕ
created_through name old [] [] new run known = known
created_through name old (e ∷ es) (a ∷ given) new run known = created_through name run.0 es given new run.2 (created_after name old e a known)
created_through name old [] (a ∷ given) new run known = known
created_through name old (e ∷ es) [] new run known = known

-- where c stood as its last start began: its position, and what it had applied
abbrev pub begun_after : List ℕ → WorldState → Event → Answer → Option (ℕ × List Published) → Option (ℕ × List Published)
begun_after c w (events.Connection d (steps.Start slot position options)) answers.Done known = if bytes_eq d c then Some (position_of c w, applied_by c w) else known
begun_after c w event answer known = known

abbrev pub begun_through : List ℕ → (old : WorldState) (es : List Event) (given : List Answer) (new : WorldState) → IsRun old es given new → Option (ℕ × List Published) → Option (ℕ × List Published)
begun_through c old [] [] new run known = known
begun_through c old (e ∷ es) (a ∷ given) new run known = begun_through c run.0 es given new run.2 (begun_after c old e a known)
begun_through c old [] (a ∷ given) new run known = known
begun_through c old (e ∷ es) [] new run known = known

-- Since its start a subscriber has gained exactly the whole blocks of what was delivered, of the stream that the start encodes.
pub record GainsSince (begun : ℕ × List Published) (l : StartState) (sub : SubscriberState) : Type 0 where
  pub items : List Item
  pub encodes : l.produced ++ l.held ≡ bytes_of_items (relation l.selection) [] items
  pub gains : GainedAll (relation l.selection) (subscriber_at_rest begun.0 begun.1) (take sub.delivered l.produced) items sub.applier.subscriber

-- What was published from a position on is what c has applied, and then transactions that commit at its own position or later. While c
-- has a start and met no fault since, it has gained what was delivered.
pub record AppliesOnce (c s : List ℕ) (wanted : StartOptions) (from : ℕ) (begun : Option (ℕ × List Published)) (w : WorldState) : Type 0 where
  pub later : List Published
  pub begins : published_transactions (wanted_of wanted w.publications) w.publisher.log from ≡ applied_by c w ++ later
  pub all : AllByRecursion (λ (t : Published). position_of c w ≤ t.start) later
  pub confirmed : (n : ℕ) → confirmed_at s w.slots ≡ Some n → n ≤ max from (position_of c w)
  pub since : (l : StartState) (sub : SubscriberState) → open_start c w.starts ≡ Some l → subscriber_of c w.subscribers ≡ Some sub → sub.applier.fault ≡ None → (stood : ℕ × List Published) × (begun ≡ Some stood) × GainsSince stood l sub

-- Whichever run leads there, this holds of each subscriber whose lines are fair in it.
abbrev pub RunsOnce : WorldState → List Event → List Answer → WorldState → Type 0
RunsOnce start es given w =
    (run : IsRun start es given w) (c s : List ℕ) (wanted : StartOptions) (from : ℕ)
    → IsFairRun c s wanted start es given w run → created_through s start es given w run None ≡ Some from → AppliesOnce c s wanted from (begun_through c start es given w run None) w
