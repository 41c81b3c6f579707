-- The names of data types in a configuration, as the definition of a column has them (PostgreSQL 15, 8): a word, and what limits it in
-- parentheses.
use Rattle.std.specs.Prelude.{ℕ, ◌+◌, ◌==◌, ◌&&◌, List, [], ◌∷◌, codes, take, drop, nat_lt, Option, Some, None, if◌then◌else◌}
use Rattle.std.specs.Option.{option_and_then, option_map}
use Rattle.std.specs.Char.{is_ascii_lowercase}
use Rattle.std.specs.Str.{bytes_eq}
use Rattle.data_types.specs.declared.data_type.DataType.{DataType}
use Rattle.data_types.specs.declared.data_type.DataType.TheVariants as types
use Rattle.data_types.specs.declared.limits.CharacterLimit.{CharacterLimit}
use Rattle.data_types.specs.declared.limits.DecimalPlaces.{DecimalPlaces}
use Rattle.data_types.specs.Clock.{is_empty}
use Rattle.data_types.specs.Digits.{Run, digits_at}
use Rattle.data_types.specs.Limits.{limit_of, places_of}

-- how many lower-case letters stand at the front
abbrev pub letter_count : List ℕ → ℕ
letter_count [] = 0
letter_count (b ∷ text) = if is_ascii_lowercase b then letter_count text + 1 else 0

-- the number of the digits between which and the end a closing parenthesis stands
abbrev pub closed : Run → Option ℕ
closed run = if nat_lt 0 run.count && bytes_eq run.rest (codes ")") then Some run.value else None

abbrev pub count_in : List ℕ → Option ℕ
count_in text = option_and_then closed (digits_at text)

abbrev pub limit_in : List ℕ → Option CharacterLimit
limit_in text = option_and_then limit_of (count_in text)

-- no digit after the point where none are told
abbrev pub scale_after : ℕ → List ℕ → Option DecimalPlaces
scale_after precision [] = None
scale_after precision (b ∷ text) =
    if b == 44 then option_and_then (λ scale. places_of precision scale) (count_in text)
    else (if b == 41 && is_empty text then places_of precision 0 else None)

abbrev pub places_after : Run → Option DecimalPlaces
places_after run = if nat_lt 0 run.count then scale_after run.value run.rest else None

abbrev pub places_in : List ℕ → Option DecimalPlaces
places_in text = option_and_then places_after (digits_at text)

-- char alone is char(1)
abbrev pub plain_type : List ℕ → Option DataType
plain_type word =
    if bytes_eq word (codes "numeric") then Some (types.Numeric None)
    else (if bytes_eq word (codes "varchar") then Some (types.Varchar None)
    else (if bytes_eq word (codes "char") then option_map types.Char (limit_of 1)
    else (if bytes_eq word (codes "bytea") then Some types.Bytea
    else (if bytes_eq word (codes "date") then Some types.Date
    else (if bytes_eq word (codes "time") then Some types.Time
    else (if bytes_eq word (codes "timestamp") then Some types.Timestamp
    else (if bytes_eq word (codes "timestamptz") then Some types.Timestamptz
    else None)))))))

abbrev pub limited_type : List ℕ → List ℕ → Option DataType
limited_type word limits =
    if bytes_eq word (codes "numeric") then option_map (λ places. types.Numeric (Some places)) (places_in limits)
    else (if bytes_eq word (codes "varchar") then option_map (λ limit. types.Varchar (Some limit)) (limit_in limits)
    else (if bytes_eq word (codes "char") then option_map types.Char (limit_in limits)
    else None))

abbrev pub type_of_word : List ℕ → List ℕ → Option DataType
type_of_word word [] = plain_type word
type_of_word word (b ∷ limits) = if b == 40 then limited_type word limits else None

-- the type of this name, of those whose values are kept as the texts that are sent of them
unfoldable pub type_named : List ℕ → Option DataType
type_named name = type_of_word (take (letter_count name) name) (drop (letter_count name) name)
