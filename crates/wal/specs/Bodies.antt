-- The change that a record's bytes are the body of.
use Rattle.std.specs.Prelude.{ℕ, List, [], Result, Ok, Err}
use Rattle.tables.specs.declared.fault.BodyFault.{BodyFault}
use Rattle.tables.specs.declared.changes.change.Change.{Change}
use Rattle.tables.specs.declared.changes.change.Change.TheVariants as changes
use Rattle.tables.specs.Reading.{body_at}

abbrev pub change_of : Result (Change × List ℕ) BodyFault → Change
change_of (Ok change) = change.0
change_of (Err fault) = changes.Truncate []

-- of bytes that are the body of no change it says nothing
abbrev pub change_in : List ℕ → Change
change_in body = change_of (body_at body)
