-- Rows as COPY sends them (PostgreSQL 15, COPY, "Text Format"): values with a tab between, and a line feed behind.
use Rattle.std.specs.Prelude.{ℕ, ◌≤◌, ◌==◌, List, [], ◌∷◌, ◌++◌, length, Option, Some, None, Result, Ok, Err, codes, if◌then◌else◌}
use Rattle.std.specs.List.{flat_map, AllByRecursion}
use Rattle.server.specs.declared.backend_fault.BackendFault.{BackendFault}
use Rattle.server.specs.Answers.{IsShort}

-- Seven bytes are escaped: a backslash, and those from a backspace to a carriage return.
abbrev pub copied_byte : ℕ → List ℕ
copied_byte b =
    if b == 92 then codes "\\\\"
    else if b == 8 then codes "\\b"
    else if b == 9 then codes "\\t"
    else if b == 10 then codes "\\n"
    else if b == 11 then codes "\\v"
    else if b == 12 then codes "\\f"
    else if b == 13 then codes "\\r"
    else b ∷ []

abbrev pub copied_value : Option (List ℕ) → List ℕ
copied_value None = codes "\\N"
copied_value (Some text) = flat_map copied_byte text

abbrev pub further_value : Option (List ℕ) → List ℕ
further_value value = 9 ∷ copied_value value

abbrev pub row_text : List (Option (List ℕ)) → List ℕ
row_text [] = 10 ∷ []
row_text (value ∷ values) = copied_value value ++ (flat_map further_value values ++ (10 ∷ []))

-- values as no table has more, and none that is longer
abbrev pub IsShortValue : Option (List ℕ) → Type 0
IsShortValue None = Unit {0}
IsShortValue (Some text) = IsShort text

abbrev pub AreShortValues : List (Option (List ℕ)) → Type 0
AreShortValues values = (length values ≤ 64) × AllByRecursion IsShortValue values

abbrev pub AreShortNext : Result (Option (List (Option (List ℕ)))) BackendFault → Type 0
AreShortNext (Ok (Some row)) = AreShortValues row
AreShortNext (Ok None) = Unit {0}
AreShortNext (Err fault) = Unit {0}
