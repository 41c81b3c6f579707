-- Positions of the log as text (PostgreSQL 15, 8.20, pg_lsn): the upper and the lower 32 bits in hexadecimal, joined by a
-- slash. Read with 1 to 8 digits a side, in either case; written in upper case, without leading zeros.
use Rattle.std.specs.Prelude.{◌≡◌, ℕ, ◌+◌, ◌*◌, ◌^◌, ◌≤◌, ◌/◌, ◌%◌, true, List, ◌++◌, length, codes}
use Rattle.std.specs.Str.Parse.{IsNumeral, digits_value}
use Rattle.std.specs.Fmt.{digits}

-- 1 to 8 hexadecimal digits
pub record IsHalf (text : List ℕ) : Type 0 where
  pub numeral : IsNumeral 16 text
  pub short : length text ≤ 8

-- The whole text is a spelling of the position.
pub record SpellsPosition (text : List ℕ) (position : ℕ) : Type 0 where
  pub upper : List ℕ
  pub lower : List ℕ
  pub parts : text ≡ upper ++ (codes "/" ++ lower)
  pub is_upper : IsHalf upper
  pub is_lower : IsHalf lower
  pub value : position ≡ digits_value 16 upper * 2 ^ 32 + digits_value 16 lower

-- the one text that is written of a position
abbrev pub position_text : ℕ → List ℕ
position_text position = digits 16 true (position / 2 ^ 32) ++ (codes "/" ++ digits 16 true (position % 2 ^ 32))
