-- Where rows stand: the keys of tables, and the row at each.
use Rattle.std.specs.Prelude.{ℕ, List, [], ◌∷◌, ◌++◌, Option, Some, None, if◌then◌else◌}
use Rattle.std.specs.List.{flat_map}
use Rattle.pqformat.specs.Fields.{int32}
use Rattle.tables.specs.declared.kinds.Value.{Value}
use Rattle.tables.specs.declared.column.Column.{Column}
use Rattle.tables.specs.declared.table.Table.{Table}
use Rattle.tables.specs.Kinds.{spell_value}
use Rattle.tables.specs.Tables.{table_of}
use Rattle.store.specs.Slots.{same_key}

-- where a row stands: its table's OID, and its values in the columns of the primary key, in table order
pub record Key : Type 0 where
  pub oid : ℕ
  pub values : List Value

abbrev pub key_values : List Column → List Value → List Value
key_values (c ∷ columns) (v ∷ row) = if c.is_key then v ∷ key_values columns row else key_values columns row
key_values columns row = []

abbrev pub key_in : Option Table → List Value → List Value
key_in None row = []
key_in (Some table) row = key_values table.columns row

abbrev pub key_of : List Table → ℕ → List Value → Key
key_of tables oid row = record { oid = oid; values = key_in (table_of oid tables) row }

-- a key as one text, in the coding of the log; two keys are one if their texts are
abbrev pub key_text : Key → List ℕ
key_text key = int32 key.oid ++ flat_map spell_value key.values

-- the row at each key
abbrev pub Rows : Type 0
Rows = Key → Option (List Value)

abbrev pub no_rows : Rows
no_rows key = None

abbrev pub with_row : Key → Option (List Value) → Rows → Rows
with_row key row rows other = if same_key (key_text other) (key_text key) then row else rows other
