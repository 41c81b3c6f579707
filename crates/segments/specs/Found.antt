-- An entry that was found, as its reader lends it.
use Rattle.std.specs.Prelude.{ℕ, List, Option, Some, None, Result, Ok, Err}
use Rattle.segments.specs.Entries.{Written}
use Rattle.segments.specs.declared.entry.EntryRef.{EntryRef}

abbrev pub lent_entry : Option EntryRef → Result (Written × List ℕ) (Unit {0})
lent_entry None = Err tt
lent_entry (Some e) = Ok (record { synced = e.synced; body = e.body.now }, e.rest.now)
