-- Truncate (PostgreSQL 15, 55.9): T, the count of the tables, the options (1: cascade, 2: restart identity), and the OID
-- of each table.
use Rattle.std.specs.Prelude.{ℕ, ◌<◌, ◌^◌, ◌==◌, Bool, true, false, List, [], ◌∷◌, ◌++◌, length, Option, Some, None, Result, Ok, if◌then◌else◌}
use Rattle.std.specs.List.{flat_map, AllByRecursion}
use Rattle.std.specs.Int.{w32}
use Rattle.pqformat.specs.Fields.{int32, number_at}
use Rattle.pqformat.specs.Steps.{◌>>=◌, repeat_at}
use Rattle.pgoutput.specs.Reading.{short, one_of, count32_at}
use Rattle.pgoutput.specs.declared.fault.PgoutputError.{PgoutputError}
use Rattle.pgoutput.specs.declared.messages.truncate.Truncate.{Truncate}
use Rattle.pgoutput.specs.declared.messages.truncate.TruncateOptions.{TruncateOptions}
use Rattle.pgoutput.specs.declared.messages.truncate.TheConstants.{NO_OPTIONS, CASCADE, RESTART_IDENTITY, CASCADE_AND_RESTART_IDENTITY}

abbrev pub letter_of : (cascade restart_identity : Bool) → ℕ
letter_of false false = NO_OPTIONS
letter_of true false = CASCADE
letter_of false true = RESTART_IDENTITY
letter_of true true = CASCADE_AND_RESTART_IDENTITY

abbrev pub options_letter : TruncateOptions → ℕ
options_letter options = letter_of options.cascade options.restart_identity

abbrev pub truncate : Truncate → List ℕ
truncate m = int32 (length m.oids) ++ ((options_letter m.options ∷ []) ++ flat_map int32 m.oids)

abbrev pub FitsTruncate : Truncate → Type 0
FitsTruncate m = (length m.oids < 2 ^ 31) × AllByRecursion (λ oid. oid < 2 ^ 32) m.oids

-- what a writer asks: the count fits its field
abbrev pub IsShortTruncate : Truncate → Type 0
IsShortTruncate m = length m.oids < 2 ^ 31

abbrev pub options : (cascade restart_identity : Bool) → TruncateOptions
options cascade restart_identity = record { cascade = cascade; restart_identity = restart_identity }

abbrev pub options_of : ℕ → Option TruncateOptions
options_of b =
    if b == NO_OPTIONS then Some (options false false)
    else if b == CASCADE then Some (options true false)
    else if b == RESTART_IDENTITY then Some (options false true)
    else if b == CASCADE_AND_RESTART_IDENTITY then Some (options true true)
    else None

abbrev pub oid_at : List ℕ → Result (ℕ × List ℕ) PgoutputError
oid_at bytes = short (number_at w32 bytes)

unfoldable pub truncate_at : List ℕ → Result (Truncate × List ℕ) PgoutputError
truncate_at bytes = do
  count ← count32_at bytes
  options ← one_of options_of count.1
  oids ← repeat_at oid_at count.0 options.1
  Ok (record { options = options.0; oids = oids.0 }, oids.1)
