-- The types of columns, as format_type of PostgreSQL 15 names them, and wal2json after it.
use Rattle.std.specs.Prelude.{◌==◌, ◌||◌, ◌+◌, ◌-◌, ◌/◌, ◌%◌, ◌++◌, ℕ, ℤ, pos, negsuc, Bool, false, List, Option, Some, None, option_and_then, codes, decimal, nat_lt, if◌then◌else◌}
use Rattle.json.specs.Json.{Json, number, string}
use Rattle.message_lines.specs.declared.telling.kinds.TheConstants.{BOOL_OID, BYTEA_OID, CHAR_OID, DATE_OID, INT8_OID, INT2_OID, INT4_OID, NUMERIC_OID, TEXT_OID, TIME_OID, TIMESTAMP_OID, TIMESTAMPTZ_OID, UUID_OID, VARCHAR_OID}

abbrev pub unlimited_by_oid : ℕ → Option (List ℕ)
unlimited_by_oid kind = if kind == CHAR_OID then Some (codes "bpchar") else if kind == VARCHAR_OID then Some (codes "character varying") else if kind == NUMERIC_OID then Some (codes "numeric") else if kind == TIME_OID then Some (codes "time without time zone") else if kind == TIMESTAMP_OID then Some (codes "timestamp without time zone") else if kind == TIMESTAMPTZ_OID then Some (codes "timestamp with time zone") else None

-- The modifier is -1.
abbrev pub is_unlimited : ℤ → Bool
is_unlimited (pos n) = false
is_unlimited (negsuc n) = n == 0

abbrev pub unlimited_name : ℕ → ℤ → Option (List ℕ)
unlimited_name kind modifier = if is_unlimited modifier then unlimited_by_oid kind else None

unfoldable pub plain_name : ℕ → ℤ → Option (List ℕ)
plain_name kind modifier = if kind == BOOL_OID then Some (codes "boolean") else if kind == INT8_OID then Some (codes "bigint") else if kind == INT2_OID then Some (codes "smallint") else if kind == INT4_OID then Some (codes "integer") else if kind == TEXT_OID then Some (codes "text") else if kind == UUID_OID then Some (codes "uuid") else if kind == BYTEA_OID then Some (codes "bytea") else if kind == DATE_OID then Some (codes "date") else unlimited_name kind modifier

-- four less than the modifier
abbrev pub limit_in : ℤ → Option ℕ
limit_in (pos n) = if nat_lt n 4 then None else Some (n - 4)
limit_in (negsuc n) = None

-- precision in the upper half and scale in the lower; None of one that is below 0
abbrev pub numeric_name : ℕ → Option (List ℕ)
numeric_name limit = if nat_lt (limit % 65536) 1024 then Some (codes "numeric(" ++ (decimal (limit / 65536) ++ (codes "," ++ (decimal (limit % 65536) ++ codes ")")))) else None

abbrev pub name_with : ℕ → ℕ → Option (List ℕ)
name_with kind limit = if kind == CHAR_OID then Some (codes "character(" ++ (decimal limit ++ codes ")")) else if kind == VARCHAR_OID then Some (codes "character varying(" ++ (decimal limit ++ codes ")")) else if kind == NUMERIC_OID then numeric_name limit else None

unfoldable pub limited_name : ℕ → ℤ → Option (List ℕ)
limited_name kind modifier = option_and_then (λ limit. name_with kind limit) (limit_in modifier)

abbrev pub name_or : Option (List ℕ) → Option (List ℕ) → Option (List ℕ)
name_or (Some name) other = Some name
name_or None other = other

abbrev pub kind_name : ℕ → ℤ → Option (List ℕ)
kind_name kind modifier = name_or (plain_name kind modifier) (limited_name kind modifier)

-- the member that tells the type: its name, or its number where no name is known
abbrev pub kind_key : Option (List ℕ) → List ℕ
kind_key (Some name) = codes "type"
kind_key None = codes "typeoid"

abbrev pub kind_json : Option (List ℕ) → ℕ → Json
kind_json (Some name) kind = string name
kind_json None kind = number (decimal kind)

abbrev pub is_number : ℕ → Bool
is_number kind = (kind == INT2_OID) || ((kind == INT4_OID) || ((kind == INT8_OID) || (kind == NUMERIC_OID)))
