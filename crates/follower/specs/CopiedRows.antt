-- A value of a row as COPY tells it (PostgreSQL 15, COPY, Text Format).
use Rattle.std.specs.Prelude.{ℕ, List, [], ◌∷◌, ◌==◌, Option, Some, None, if◌then◌else◌}
use Rattle.std.specs.List.{flat_map}
use Rattle.pgoutput.specs.declared.parts.tuple.Cell.{Cell}
use Rattle.pgoutput.specs.declared.parts.tuple.Cell.TheVariants as cells

-- What stands for a byte. A backslash is doubled; a backspace, a tab, a line feed, a vertical tab, a form feed and a carriage return are
-- told by a letter after one.
abbrev pub escaped_byte : ℕ → List ℕ
escaped_byte b =
    if b == 92 then 92 ∷ 92 ∷ []
    else if b == 8 then 92 ∷ 98 ∷ []
    else if b == 9 then 92 ∷ 116 ∷ []
    else if b == 10 then 92 ∷ 110 ∷ []
    else if b == 11 then 92 ∷ 118 ∷ []
    else if b == 12 then 92 ∷ 102 ∷ []
    else if b == 13 then 92 ∷ 114 ∷ []
    else b ∷ []

abbrev pub escaped : List ℕ → List ℕ
escaped bytes = flat_map escaped_byte bytes

-- what stands for a value; a null is a backslash and an N
abbrev pub field_of : Option (List ℕ) → List ℕ
field_of None = 92 ∷ 78 ∷ []
field_of (Some bytes) = escaped bytes

-- the value in a message
abbrev pub cell_of : Option (List ℕ) → Cell
cell_of None = cells.Null
cell_of (Some bytes) = cells.Text bytes

-- what a letter means after a backslash
abbrev pub meant_by : ℕ → ℕ
meant_by letter =
    if letter == 98 then 8
    else if letter == 116 then 9
    else if letter == 110 then 10
    else if letter == 118 then 11
    else if letter == 102 then 12
    else if letter == 114 then 13
    else letter
