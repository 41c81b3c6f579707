-- The values of a row, each with the name and the type of its column.
use Rattle.std.specs.Prelude.{◌<◌, ◌^◌, Bool, true, List, [], ◌∷◌, ◌++◌, codes, if◌then◌else◌}
use Rattle.pgoutput.specs.declared.messages.relation.Column.{Column}
use Rattle.pgoutput.specs.declared.messages.relation.Relation.{Relation}
use Rattle.pgoutput.specs.declared.parts.tuple.Cell.{Cell}
use Rattle.pgoutput.specs.declared.parts.tuple.Cell.TheVariants as cells
use Rattle.json.specs.Json.{Json, null, string, array, object, Items, no_items, item, no_members, member}
use Rattle.json.specs.Token as token
use Rattle.json.specs.Token.{Token}
use Rattle.json.specs.Tree.{json_tokens}
use Rattle.message_lines.specs.Kinds.{kind_name, kind_key, kind_json}
use Rattle.message_lines.specs.Values.{value_json}
use Rattle.message_lines.specs.declared.parts.told_values.ToldValues.{ToldValues}
use Rattle.message_lines.specs.declared.parts.told_values.ToldValues.TheVariants.{Whole, Key}

abbrev pub column_json : Column → Json → Json
column_json c value = object (member (codes "name") (string c.name) (member (kind_key (kind_name c.kind c.modifier)) (kind_json (kind_name c.kind c.modifier) c.kind) (member (codes "value") value no_members)))

-- a null is told of a key's own columns alone: of the others a key has none
abbrev pub is_told : ToldValues → Column → Bool
is_told Whole c = true
is_told Key c = c.is_key

-- The value of a column in front of those of the others. What didn't change and wasn't sent is left out.
abbrev pub with_cell : ToldValues → Column → Cell → Items → Items
with_cell part c cells.Unchanged more = more
with_cell part c cells.Null more = if is_told part c then item (column_json c null) more else more
with_cell part c (cells.Text text) more = item (column_json c (value_json c.kind text)) more

-- of a row with as many values as there are columns
unfoldable pub cells_items : ToldValues → List Column → List Cell → Items
cells_items part [] row = no_items
cells_items part (c ∷ columns) [] = no_items
cells_items part (c ∷ columns) (cell ∷ row) = with_cell part c cell (cells_items part columns row)

abbrev pub row_json : ToldValues → Relation → List Cell → Json
row_json part r row = array (cells_items part r.columns row)

-- an OID is a number of 32 bits
abbrev pub AreKinds : List Column → Type 0
AreKinds [] = Unit {0}
AreKinds (c ∷ columns) = (c.kind < 2 ^ 32) × AreKinds columns

-- ---- as it is written

abbrev pub column_front : Column → List Token
column_front c = token.begin_object ∷ token.key (codes "name") ∷ token.string c.name ∷ token.key (kind_key (kind_name c.kind c.modifier)) ∷ (json_tokens (kind_json (kind_name c.kind c.modifier) c.kind) ++ token.key (codes "value") ∷ [])

abbrev pub cell_tokens : ToldValues → Column → Cell → List Token
cell_tokens part c cells.Unchanged = []
cell_tokens part c cells.Null = if is_told part c then json_tokens (column_json c null) else []
cell_tokens part c (cells.Text text) = json_tokens (column_json c (value_json c.kind text))
