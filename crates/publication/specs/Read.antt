-- What is read of the bodies of changes.
use Rattle.std.specs.Prelude.{Result, Ok, [], ◌≡◌, ℕ, ◌≤◌, List}
use Rattle.tables.specs.declared.fault.BodyFault.{BodyFault}
use Rattle.tables.specs.declared.rows.row.TheConstants.{MAX_ROW_LENGTH}
use Rattle.tables.specs.declared.kinds.Value.{Value}
use Rattle.tables.specs.Reading.{IsCodedRow}
use Rattle.tables.specs.Spelling.{row_length}

-- all of it was read
abbrev pub IsReadWhole : {A : Type 0} → Result (A × List ℕ) BodyFault → Type 0
IsReadWhole {A} read = (x : A) × (read ≡ Ok (x, []))

-- a row that was read from the log, of at most 8,000 bytes there
abbrev pub IsShortRow : List Value → Type 0
IsShortRow row = IsCodedRow row × (row_length row ≤ MAX_ROW_LENGTH)
