-- Each transaction once: what a follower gains over its connections, printed and not yet printed.
use Rattle.std.specs.Prelude.{◌≡◌, ℕ, ◌≤◌, List, [], ◌∷◌, ◌++◌, max, None}
use Rattle.pgoutput.specs.declared.published.Published.{Published}
use Rattle.client.specs.Law.{IsForward}
use Rattle.client.specs.Subscriber.{Subscriber, subscriber_at_rest}
use Rattle.client.specs.Taking.{ApplierState}

-- Between two positions these transactions come one after the other: each commit record starts where the one before it ends, or
-- later, and ends past where it starts. So none comes twice.
abbrev pub EachOnce : ℕ → List Published → ℕ → Type 0
EachOnce from [] to = from ≤ to
EachOnce from (t ∷ ts) to = (from ≤ t.start) × IsForward t × EachOnce (max from t.end) ts to

-- What a subscriber has gained: from its old position on and up to its new one, each once.
pub record Gains (old new : Subscriber) : Type 0 where
  pub fresh : List Published
  pub applied : new.applied ≡ old.applied ++ fresh
  pub once : EachOnce old.position fresh new.position

-- as it is when a connection begins
abbrev pub applier_at_connection : ApplierState → ApplierState
applier_at_connection a = record { subscriber = subscriber_at_rest a.subscriber.position a.subscriber.applied; unread = []; fault = None }

-- as it is without the transactions that it has applied
abbrev pub applier_without_applied : ApplierState → ApplierState
applier_without_applied a = record a { subscriber = record a.subscriber { applied = [] } }

-- and with others before them, which were printed
abbrev pub before : List Published → Subscriber → Subscriber
before printed s = record s { applied = printed ++ s.applied }

abbrev pub with_printed : List Published → ApplierState → ApplierState
with_printed printed a = record a { subscriber = before printed a.subscriber }
