-- The name for which a START_REPLICATION is refused, where it names an option that isn't known (PostgreSQL 15, 55.5).
use Rattle.std.specs.Prelude.{◌≡◌, ℕ, List, Option, Bool, not, ◌||◌, drop, codes}
use Rattle.std.specs.List.{filter_map, find}
use Rattle.std.specs.Option.{is_some}
use Rattle.std.specs.Str.{bytes_eq}
use Rattle.replcmd.specs.declared.text.token.Token.{Token}
use Rattle.replcmd.specs.Lexing.{Lexes}
use Rattle.replcmd.specs.Reading.{name_of}
use Rattle.replcmd.specs.Settings.{unserved_of}

abbrev pub is_option : List ℕ → Bool
is_option name = bytes_eq name (codes "proto_version") || (bytes_eq name (codes "publication_names") || (bytes_eq name (codes "messages") || is_some (unserved_of name)))

abbrev pub is_unrecognized : List ℕ → Bool
is_unrecognized name = not (is_option name)

-- among these tokens the first name that no option has
abbrev pub first_unrecognized : List Token → Option (List ℕ)
first_unrecognized tokens = find is_unrecognized (filter_map name_of tokens)

-- the first such name among the options: before them stand two words, the slot, a word, the position and a bracket
abbrev pub Unrecognized : List ℕ → Option (List ℕ) → Type 0
Unrecognized text name = (tokens : List Token) × Lexes text tokens × (name ≡ first_unrecognized (drop 6 tokens))
