-- Relation (PostgreSQL 15, 55.9): R, the table's OID, its namespace and name, its identity, the count of its columns,
-- and for each column its flags (1: part of the key), its name, the OID of its type and the type modifier.
use Rattle.std.specs.Prelude.{◌≡◌, ℕ, ◌<◌, ◌^◌, ◌==◌, FitsSigned, Bool, true, false, List, [], ◌∷◌, ◌++◌, length, Option, Some, None, Result, Ok, if◌then◌else◌}
use Rattle.std.specs.List.{flat_map, AllByRecursion}
use Rattle.std.specs.Int.{w32, cast_unsigned}
use Rattle.std.specs.Str.{is_utf8}
use Rattle.pqformat.specs.Fields.{int16, int32, string, has_zero, number_at}
use Rattle.pqformat.specs.Steps.{◌>>=◌, repeat_at}
use Rattle.pgoutput.specs.Reading.{short, one_of, count16_at, signed32_at, name_at}
use Rattle.pgoutput.specs.declared.fault.PgoutputError.{PgoutputError}
use Rattle.pgoutput.specs.declared.messages.relation.Relation.{Relation}
use Rattle.pgoutput.specs.declared.messages.relation.Column.{Column}
use Rattle.pgoutput.specs.declared.messages.relation.Identity.{Identity}
use Rattle.pgoutput.specs.declared.messages.relation.Identity.TheVariants.{Default, Nothing, Full, Index}
use Rattle.pgoutput.specs.declared.messages.relation.TheConstants.{IDENTITY_DEFAULT, IDENTITY_NOTHING, IDENTITY_FULL, IDENTITY_INDEX, KEY_FLAG, NO_FLAG}

abbrev pub identity_letter : Identity → ℕ
identity_letter Default = IDENTITY_DEFAULT
identity_letter Nothing = IDENTITY_NOTHING
identity_letter Full = IDENTITY_FULL
identity_letter Index = IDENTITY_INDEX

abbrev pub key_flag : Bool → ℕ
key_flag true = KEY_FLAG
key_flag false = NO_FLAG

abbrev pub column : Column → List ℕ
column c = (key_flag c.is_key ∷ []) ++ (string c.name ++ (int32 c.kind ++ int32 (cast_unsigned w32 c.modifier)))

abbrev pub relation : Relation → List ℕ
relation m = int32 m.oid ++ (string m.namespace ++ (string m.name ++ ((identity_letter m.identity ∷ []) ++ (int16 (length m.columns) ++ flat_map column m.columns))))

-- a name: text without a zero byte
abbrev pub FitsName : List ℕ → Type 0
FitsName name = (has_zero name ≡ false) × (is_utf8 name ≡ true)

abbrev pub FitsColumn : Column → Type 0
FitsColumn c = FitsName c.name × ((c.kind < 2 ^ 32) × FitsSigned w32 c.modifier)

abbrev pub FitsRelation : Relation → Type 0
FitsRelation m = (m.oid < 2 ^ 32) × (FitsName m.namespace × (FitsName m.name × ((length m.columns < 2 ^ 15) × AllByRecursion FitsColumn m.columns)))

-- what a writer asks: the count fits its field
abbrev pub IsShortRelation : Relation → Type 0
IsShortRelation m = length m.columns < 2 ^ 15

abbrev pub identity_of : ℕ → Option Identity
identity_of b =
    if b == IDENTITY_DEFAULT then Some Default
    else if b == IDENTITY_NOTHING then Some Nothing
    else if b == IDENTITY_FULL then Some Full
    else if b == IDENTITY_INDEX then Some Index
    else None

abbrev pub is_key_of : ℕ → Option Bool
is_key_of b = if b == KEY_FLAG then Some true else if b == NO_FLAG then Some false else None

unfoldable pub column_at : List ℕ → Result (Column × List ℕ) PgoutputError
column_at bytes = do
  is_key ← one_of is_key_of bytes
  name ← name_at is_key.1
  kind ← short (number_at w32 name.1)
  modifier ← signed32_at kind.1
  Ok (record { is_key = is_key.0; name = name.0; kind = kind.0; modifier = modifier.0 }, modifier.1)

unfoldable pub columns_at : List ℕ → Result (List Column × List ℕ) PgoutputError
columns_at bytes = count16_at bytes >>= λ n. repeat_at column_at n.0 n.1

unfoldable pub relation_at : List ℕ → Result (Relation × List ℕ) PgoutputError
relation_at bytes = do
  oid ← short (number_at w32 bytes)
  namespace ← name_at oid.1
  name ← name_at namespace.1
  identity ← one_of identity_of name.1
  columns ← columns_at identity.1
  Ok (record { oid = oid.0; namespace = namespace.0; name = name.0; identity = identity.0; columns = columns.0 }, columns.1)
