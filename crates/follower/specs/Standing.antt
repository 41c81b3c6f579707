-- Where a follower stands, and what each of its deeds makes of that.
use Rattle.std.specs.Prelude.{◌≡◌, ◌⊎◌, ℕ, ℤ, Bool, true, false, List, [], ◌∷◌, ◌++◌, take, Option, Result}
use Rattle.std.specs.List.{AllByRecursion}
use Rattle.std.specs.Io.KnownBytes.{Appends, Keeps}
use Rattle.frames.specs.Frame.{frame}
use Rattle.frames.specs.declared.copy_data.TheConstants.{COPY_DATA}
use Rattle.frames.specs.declared.copy_done.TheConstants.{COPY_DONE}
use Rattle.copyboth.specs.Status.{status}
use Rattle.client.specs.declared.fault.ClientFault.{ClientFault}
use Rattle.client.specs.Taking.{ApplierState, Takes}
use Rattle.follower.specs.Once.{applier_at_connection, applier_without_applied}
use Rattle.follower.specs.declared.receiving.delivery.Delivery.{Delivery}

-- what it has taken, and what came after that; what came to its output, and what of that stands there for good; what its server
-- was sent; and whether the output has failed
pub record Standing : Type 0 where
  pub applier : ApplierState
  pub unread : List ℕ
  pub written : Option (List ℕ)
  pub kept : Option (List ℕ)
  pub sent : Option (List ℕ)
  pub is_broken : Bool

-- A server is asked, and a connection begins. More comes. Of what came these bytes are taken, of which this is answered. What is
-- there is printed by these lines; after all of it these are printed; the output fails at these lines. Of a status under a clock,
-- which may ask for a keepalive, so many bytes are sent; likewise of the end of the stream.
pub data Deed : Type 0 where
  Asks : Deed
  Connects : Deed
  Waits : Deed
  Receives : List ℕ → Result (Unit {0}) ClientFault → Deed
  Prints : List ℕ → Deed
  Sums : List ℕ → Deed
  Breaks : List ℕ → Deed
  Tells : (clock : ℤ) → (ask : Bool) → ℕ → Deed
  Ends : ℕ → Deed

-- the status that acknowledges all up to a position, under a clock
abbrev pub status_at : ℕ → ℤ → Bool → List ℕ
status_at position clock ask = frame COPY_DATA (status (record { written = position; flushed = position; applied = position; clock = clock; ask = ask }))

-- Lines came to the output, and stand there for good with all before them. Nothing waits any more.
pub record DoesPrint (lines : List ℕ) (old new : Standing) : Type 0 where
  pub sound : old.is_broken ≡ false
  pub applier : new.applier ≡ applier_without_applied old.applier
  pub unread : new.unread ≡ old.unread
  pub written : Appends old.written new.written lines
  pub kept : new.kept ≡ new.written
  pub sent : new.sent ≡ old.sent
  pub still : new.is_broken ≡ false

-- A beginning of them came, and nothing is printed after it.
pub record DoesBreak (lines : List ℕ) (old new : Standing) : Type 0 where
  pub sound : old.is_broken ≡ false
  pub applier : new.applier ≡ old.applier
  pub unread : new.unread ≡ old.unread
  pub count : ℕ
  pub written : Appends old.written new.written (take count lines)
  pub sent : new.sent ≡ old.sent
  pub breaks : new.is_broken ≡ true

-- So many of these bytes were sent. Nothing waits to be printed, and all that was printed stands in the output for good.
pub record DoesSend (bytes : List ℕ) (count : ℕ) (old new : Standing) : Type 0 where
  pub printed : old.applier.subscriber.applied ≡ []
  pub kept : old.kept ≡ old.written
  pub sent : Appends old.sent new.sent (take count bytes)
  pub same : new ≡ record old { sent = new.sent }

abbrev pub Does : Deed → Standing → Standing → Type 0
Does Asks old new = Keeps old.written new.written × (new ≡ record old { unread = new.unread; written = new.written; kept = new.kept; sent = new.sent })
Does Connects old new = new ≡ record old { applier = applier_at_connection old.applier }
Does Waits old new = (more : List ℕ) × Keeps old.sent new.sent × (new ≡ record old { unread = old.unread ++ more; sent = new.sent })
Does (Receives bytes result) old new = Takes old.applier new.applier bytes result × (old.unread ≡ bytes ++ new.unread) × (new ≡ record old { applier = new.applier; unread = new.unread })
Does (Prints lines) old new = DoesPrint lines old new
Does (Sums lines) old new = (old.applier.subscriber.applied ≡ []) × DoesPrint lines old new
Does (Breaks lines) old new = DoesBreak lines old new
Does (Tells clock ask count) old new = DoesSend (status_at old.applier.subscriber.position clock ask) count old new
Does (Ends count) old new = DoesSend (frame COPY_DONE []) count old new

-- one deed after the other
abbrev pub Runs : Standing → List Deed → Standing → Type 0
Runs old [] new = new ≡ old
Runs old (deed ∷ deeds) new = (next : Standing) × Does deed old next × Runs next deeds new

-- no server is asked by it, and no connection begins
abbrev pub IsOfAStream : Deed → Type 0
IsOfAStream Asks = ⊥
IsOfAStream Connects = ⊥
IsOfAStream deed = Unit {0}

-- By some deeds over a stream the one standing became the other.
pub record Goes (old new : Standing) : Type 0 where
  pub deeds : List Deed
  pub runs : Runs old deeds new
  pub stream : AllByRecursion IsOfAStream deeds

-- A server was asked, and unless it refused or was lost, a connection began. By some deeds over its stream the one standing then
-- became the other.
pub record GoesOver (old new : Standing) : Type 0 where
  pub asked : Standing
  pub asks : Does Asks old asked
  pub goes : (new ≡ asked) ⊎ ((begun : Standing) × Does Connects asked begun × Goes begun new)

-- lines came to an output that had not failed, and all that came to it is kept
pub record HandsOver (lines : List ℕ) (was_broken is_broken : Bool) (old new safe : Option (List ℕ)) : Type 0 where
  pub sound : was_broken ≡ false
  pub still : is_broken ≡ false
  pub written : Appends old new lines
  pub kept : safe ≡ new

-- a beginning of them came to one that had not failed, and now has
pub record FailsToHand (lines : List ℕ) (was_broken is_broken : Bool) (old new : Option (List ℕ)) : Type 0 where
  pub sound : was_broken ≡ false
  pub breaks : is_broken ≡ true
  pub count : ℕ
  pub written : Appends old new (take count lines)

abbrev pub standing : Delivery → (unread : List ℕ) → (written kept sent : Option (List ℕ)) → Standing
standing d unread written kept sent = record { applier = d.receiver.applier; unread = unread; written = written; kept = kept; sent = sent; is_broken = d.is_broken }

-- as it is when a connection begins
abbrev pub connected : Delivery → Delivery
connected d = record d { receiver = record d.receiver { applier = applier_at_connection d.receiver.applier } }
