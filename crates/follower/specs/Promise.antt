-- All that is done with a receiver over its connections, one deed after the other.
use Rattle.std.specs.Prelude.{ℕ, false, List, [], ◌∷◌, ◌++◌, None, Option, Ok, Err}
use Rattle.pgoutput.specs.declared.published.Published.{Published}
use Rattle.client.specs.Subscriber.{subscriber_at_rest}
use Rattle.follower.specs.Standing.{Standing, Deed, Asks, Connects, Waits, Receives, Prints, Sums, Breaks, Tells, Ends, Runs}

-- before anything is done
abbrev pub begun_at : ℕ → (written kept sent : Option (List ℕ)) → Standing
begun_at start written kept sent = record {
  applier = record { subscriber = subscriber_at_rest start []; unread = []; fault = None };
  unread = [];
  written = written;
  kept = kept;
  sent = sent;
  is_broken = false;
}

-- the transactions that were printed, in order
abbrev pub printed_in : (old : Standing) (deeds : List Deed) (new : Standing) → Runs old deeds new → List Published
printed_in old [] new run = []
printed_in old (Prints lines ∷ deeds) new run = old.applier.subscriber.applied ++ printed_in run.0 deeds new run.2
printed_in old (Asks ∷ deeds) new run = printed_in run.0 deeds new run.2
printed_in old (Connects ∷ deeds) new run = printed_in run.0 deeds new run.2
printed_in old (Waits ∷ deeds) new run = printed_in run.0 deeds new run.2
printed_in old (Receives bytes result ∷ deeds) new run = printed_in run.0 deeds new run.2
printed_in old (Sums lines ∷ deeds) new run = printed_in run.0 deeds new run.2
printed_in old (Breaks lines ∷ deeds) new run = printed_in run.0 deeds new run.2
printed_in old (Tells clock ask count ∷ deeds) new run = printed_in run.0 deeds new run.2
printed_in old (Ends count ∷ deeds) new run = printed_in run.0 deeds new run.2

-- on one connection, and without a fault of what came
abbrev pub AreReceived : List Deed → Type 0
AreReceived [] = Unit {0}
AreReceived (Asks ∷ deeds) = ⊥
AreReceived (Connects ∷ deeds) = ⊥
AreReceived (Receives bytes (Err e) ∷ deeds) = ⊥
AreReceived (Receives bytes (Ok u) ∷ deeds) = AreReceived deeds
AreReceived (Waits ∷ deeds) = AreReceived deeds
AreReceived (Prints lines ∷ deeds) = AreReceived deeds
AreReceived (Sums lines ∷ deeds) = AreReceived deeds
AreReceived (Breaks lines ∷ deeds) = AreReceived deeds
AreReceived (Tells clock ask count ∷ deeds) = AreReceived deeds
AreReceived (Ends count ∷ deeds) = AreReceived deeds

-- the bytes that were taken
abbrev pub received_bytes : List Deed → List ℕ
received_bytes [] = []
received_bytes (Receives bytes result ∷ deeds) = bytes ++ received_bytes deeds
received_bytes (Asks ∷ deeds) = received_bytes deeds
received_bytes (Connects ∷ deeds) = received_bytes deeds
received_bytes (Waits ∷ deeds) = received_bytes deeds
received_bytes (Prints lines ∷ deeds) = received_bytes deeds
received_bytes (Sums lines ∷ deeds) = received_bytes deeds
received_bytes (Breaks lines ∷ deeds) = received_bytes deeds
received_bytes (Tells clock ask count ∷ deeds) = received_bytes deeds
received_bytes (Ends count ∷ deeds) = received_bytes deeds
