-- What the log gives back: all that stands before where each slot's stream would begin to read and each open start has read, but for
-- what transactions in progress have written. In PostgreSQL WAL is removed up to the oldest `restart_lsn` of its slots (PostgreSQL 15,
-- 30.5 and 54.19).
use Rattle.std.specs.Prelude.{◌≡◌, ◌<◌, ◌⊎◌, ℕ, min, List, [], ◌∷◌, map, if◌then◌else◌}
use Rattle.slots.specs.Keeping.{confirmed_slot}
use Rattle.slots.specs.declared.by_name.slot.Slot.{Slot}
use Rattle.txlog.specs.Publishing.{after_give_back, log_end}
use Rattle.txlog.specs.Giving.{kept_place}
use Rattle.world.specs.declared.printed.answer.Answer.{Answer}
use Rattle.world.specs.declared.printed.answer.Answer.TheVariants.{Done}
use Rattle.world.specs.Start.{StartState}
use Rattle.world.specs.State.{WorldState}

-- the least of a position and those that slots are confirmed at
abbrev pub least_confirmed : List Slot → ℕ → ℕ
least_confirmed [] least = least
least_confirmed (s ∷ slots) least = least_confirmed slots (min least s.confirmed)

-- the least of a position and those up to which the open ones of the starts have read
abbrev pub least_read : List StartState → ℕ → ℕ
least_read [] least = least
least_read (s ∷ starts) least = least_read starts (if s.is_open then min least s.position else least)

-- the least position from which a stream of a slot or one in progress goes on
abbrev pub needed_from : WorldState → ℕ
needed_from w = least_read w.starts (least_confirmed (map confirmed_slot w.slots.slots) (log_end w.publisher))

-- Something may be needed from before what was given back already: then nothing more goes.
pub record Forgets (old : WorldState) (answer : Answer) (new : WorldState) : Type 0 where
  pub done : answer ≡ Done
  pub gives : (new.publisher ≡ after_give_back (kept_place (needed_from old) old.publisher.log) old.publisher) ⊎ ((0 < old.publisher.given) × (new.publisher ≡ old.publisher))
  pub is : new ≡ record old { publisher = new.publisher }
