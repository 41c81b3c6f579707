-- What a delivery does: bytes go from the pipe of a connection to its subscriber.
use Rattle.std.specs.Prelude.{◌≡◌, ℕ, ◌+◌, ◌||◌, nat_lt, List, length, take, Some, Ok, Err}
use Rattle.client.specs.Taking.{ApplierState, Takes}
use Rattle.world.specs.declared.printed.answer.Answer.{Answer}
use Rattle.world.specs.declared.printed.answer.Answer.TheVariants as answers
use Rattle.world.specs.Start.{StartState}
use Rattle.world.specs.State.{SubscriberState, WorldState, in_pipe, open_start, subscriber_of, with_subscriber}

-- what an applier answers to the bytes: Done, or its fault
abbrev pub AnswersTo : List ℕ → ApplierState → Answer → ApplierState → Type 0
AnswersTo bytes old answers.Done new = Takes old new bytes (Ok tt)
AnswersTo bytes old (answers.Subscriber fault) new = Takes old new bytes (Err fault)
AnswersTo bytes old answer new = ⊥

-- The subscriber gets the bytes, whatever it answers.
pub record Gets (bytes : List ℕ) (old : SubscriberState) (answer : Answer) (new : SubscriberState) : Type 0 where
  pub answers : AnswersTo bytes old.applier answer new.applier
  pub is : new ≡ record old { applier = new.applier; delivered = old.delivered + length bytes; has_taken = old.has_taken || nat_lt 0 (length bytes) }

-- the lesser of so many bytes and what the pipe holds goes to the subscriber
pub record Delivers (connection : List ℕ) (n : ℕ) (old : WorldState) (answer : Answer) (new : WorldState) : Type 0 where
  pub start : StartState
  pub there : open_start connection old.starts ≡ Some start
  pub before : SubscriberState
  pub known : subscriber_of connection old.subscribers ≡ Some before
  pub after : SubscriberState
  pub gets : Gets (take n (in_pipe start before)) before answer after
  pub is : new ≡ record old { subscribers = with_subscriber connection after old.subscribers }
