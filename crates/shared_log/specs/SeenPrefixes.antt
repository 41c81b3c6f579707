-- What a history says of its log. A record is offered and then confirmed; an offer that is not confirmed gives way to the
-- next one.
use Rattle.std.specs.Prelude.{Bool, true, false, List, [], ◌∷◌, ◌++◌, Option, Some, None}
use Rattle.wal.specs.declared.record.Record.{Record}
use Rattle.shared_log.specs.declared.histories.entry.Entry.{Entry}
use Rattle.shared_log.specs.declared.histories.entry.Entry.TheVariants.{Offered, Confirmed}

abbrev pub one_of : Option Record → List Record
one_of None = []
one_of (Some r) = r ∷ []

-- the records that are confirmed, after those of a log and with what was offered before
abbrev pub settled_from : List Record → Option Record → List Entry → List Record
settled_from log offered [] = log
settled_from log offered (Offered r ∷ es) = settled_from log (Some r) es
settled_from log offered (Confirmed ∷ es) = settled_from (log ++ one_of offered) None es

-- the records that stand in the log
abbrev pub settled_records : List Entry → List Record
settled_records es = settled_from [] None es

-- the record that was offered last and is not confirmed
abbrev pub open_from : Option Record → List Entry → Option Record
open_from offered [] = offered
open_from offered (Offered r ∷ es) = open_from (Some r) es
open_from offered (Confirmed ∷ es) = open_from None es

-- the records that stand in the log, and the one that is offered
abbrev pub shown_records : List Entry → List Record
shown_records es = settled_records es ++ one_of (open_from None es)

-- nothing is offered: the history is empty, or a record was confirmed last
abbrev pub ends_from : Bool → List Entry → Bool
ends_from confirmed [] = confirmed
ends_from confirmed (Offered r ∷ es) = ends_from false es
ends_from confirmed (Confirmed ∷ es) = ends_from true es

abbrev pub ends_confirmed : List Entry → Bool
ends_confirmed es = ends_from true es
