-- Which lines end a transaction, or are a note, and where in the log a follower goes on after them.
use Rattle.std.specs.Prelude.{ℕ, ◌+◌, ◌-◌, ◌^◌, ◌==◌, Bool, false, not, List, Option, Some, None, option_and_then, codes, if◌then◌else◌}
use Rattle.std.specs.Str.{bytes_eq}
use Rattle.json.specs.Find.{get, as_str, as_bool}
use Rattle.json.specs.Json.{Json, document}
use Rattle.replcmd.specs.Reading.{position_of}

abbrev pub text_in : List ℕ → Json → Option (List ℕ)
text_in name j = option_and_then as_str (get name j)

-- where the transaction ends of whose Commit the line is
abbrev pub end_of_commit : Json → Option ℕ
end_of_commit j = option_and_then position_of (text_in (codes "nextlsn") j)

abbrev pub is_false : Option Bool → Bool
is_false None = false
is_false (Some b) = not b

abbrev pub is_note : Json → Bool
is_note j = is_false (option_and_then as_bool (get (codes "transactional") j))

-- after the start of a record, and within it
abbrev pub behind : ℕ → Option ℕ
behind position = if position == 2 ^ 64 - 1 then None else Some (position + 1)

abbrev pub end_of_note : Json → Option ℕ
end_of_note j = if is_note j then option_and_then behind (option_and_then position_of (text_in (codes "lsn") j)) else None

abbrev pub end_by : Option (List ℕ) → Json → Option ℕ
end_by None j = None
end_by (Some action) j = if bytes_eq action (codes "C") then end_of_commit j else if bytes_eq action (codes "M") then end_of_note j else None

unfoldable pub end_in : Json → Option ℕ
end_in j = end_by (text_in (codes "action") j) j

-- of the text of a line; None where it ends nothing
abbrev pub end_of : List ℕ → Option ℕ
end_of text = option_and_then end_in (document text)
