-- The words of commands (PostgreSQL 15, 4.1.1 and 55.4): keywords, in either case; names, either bare and folded to lower
-- case, or in double quotes and as they stand; the names that a slot may have; and the words for truth values.
use Rattle.std.specs.Prelude.{◌≡◌, ℕ, ◌==◌, nat_lt, nat_le, List, [], ◌∷◌, length, map, Bool, true, false, ◌||◌, ◌&&◌, codes}
use Rattle.std.specs.List.{list_all}
use Rattle.std.specs.Char.{to_ascii_lowercase, is_ascii_alphabetic, is_ascii_alphanumeric, is_ascii_lowercase, is_ascii_digit}
use Rattle.std.specs.Str.{bytes_eq}
use Rattle.replcmd.specs.declared.text.token.Token.{Token}
use Rattle.replcmd.specs.declared.text.token.Token.TheVariants.{Word, Quoted}
use Rattle.replcmd.specs.declared.text.words.TheConstants.{MOST_SLOT_NAME_BYTES}

abbrev pub lower : List ℕ → List ℕ
lower word = map to_ascii_lowercase word

abbrev pub is_keyword : List ℕ → List ℕ → Bool
is_keyword keyword word = bytes_eq (lower word) (lower keyword)

-- The word stands for this truth value: `true` or `on`, `false` or `off`, in either case.
abbrev pub is_truth : Bool → List ℕ → Bool
is_truth true word = is_keyword (codes "true") word || is_keyword (codes "on") word
is_truth false word = is_keyword (codes "false") word || is_keyword (codes "off") word

-- a letter or an underscore, and then letters, digits, underscores and dollar signs
abbrev pub is_first : ℕ → Bool
is_first b = is_ascii_alphabetic b || b == 95

abbrev pub is_later : ℕ → Bool
is_later b = is_ascii_alphanumeric b || (b == 95 || b == 36)

abbrev pub is_bare : List ℕ → Bool
is_bare [] = false
is_bare (b ∷ bytes) = is_first b && list_all is_later bytes

-- The token spells the name.
abbrev pub IsName : List ℕ → Token → Type 0
IsName name (Word w) = (is_bare w ≡ true) × (name ≡ lower w)
IsName name (Quoted n) = name ≡ n
IsName name _ = ⊥

-- lower-case letters, digits and underscores, 1 to 63 of them
abbrev pub is_slot_byte : ℕ → Bool
is_slot_byte b = is_ascii_lowercase b || (is_ascii_digit b || b == 95)

abbrev pub is_slot_name : List ℕ → Bool
is_slot_name name = nat_lt 0 (length name) && (nat_le (length name) MOST_SLOT_NAME_BYTES && list_all is_slot_byte name)
