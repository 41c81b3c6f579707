-- date (PostgreSQL 15, 8.5), in the form of ISO 8601: days by the Gregorian calendar, before its beginning too, counted as Julian days.
use Rattle.std.specs.Prelude.{ℕ, ◌+◌, ◌-◌, ◌*◌, ◌/◌, ◌%◌, ◌==◌, ◌&&◌, ◌||◌, Bool, true, false, not, List, [], ◌∷◌, codes, length, take, drop, nat_lt, nat_le, is_some, Option, Some, None, if◌then◌else◌}
use Rattle.std.specs.Option.{option_and_then, option_map, option_map_or}
use Rattle.std.specs.Char.{to_ascii_lowercase}
use Rattle.std.specs.Str.{bytes_eq}
use Rattle.data_types.specs.Digits.{Run, digits_at, after_blanks, are_blanks, word_length}
use Rattle.data_types.specs.Truths.{abridges}
use Rattle.data_types.specs.declared.texts.calendar.WrittenDay.{WrittenDay}
use Rattle.data_types.specs.declared.texts.calendar.TheConstants.{EPOCH_DAY, MAX_YEAR, MAX_YEAR_BEFORE, INFINITE_DAY}

-- WHAT IS WRITTEN

abbrev pub some_digits : Run → Option Run
some_digits run = if nat_lt 0 run.count then Some run else None

-- digits, one at least, after this mark
abbrev pub part_at : ℕ → List ℕ → Option Run
part_at mark [] = None
part_at mark (b ∷ text) = if b == mark then option_and_then some_digits (digits_at text) else None

-- a year, a month and a day as they are written, whether in as many digits as they are sent in, and what stands after them
pub record Day : Type 0 where
  pub year : ℕ
  pub month : ℕ
  pub day : ℕ
  pub is_padded : Bool
  pub rest : List ℕ

abbrev pub lent_day : WrittenDay → Day
lent_day day = record { year = day.year; month = day.month; day = day.day; is_padded = day.is_padded; rest = day.rest.now }

-- four digits, or as many as the year needs
abbrev pub is_padded_year : ℕ → ℕ → Bool
is_padded_year count year =
    count == 4 || ((count == 5 && nat_le 10000 year) || ((count == 6 && nat_le 100000 year) || (count == 7 && nat_le 1000000 year)))

abbrev pub day_of_runs : Run → Run → Run → Option Day
day_of_runs year month day =
    if nat_lt year.count 3 then None
    else Some record {
      year = year.value;
      month = month.value;
      day = day.value;
      is_padded = is_padded_year year.count year.value && (month.count == 2 && day.count == 2);
      rest = day.rest;
    }

abbrev pub day_at : List ℕ → Option Day
day_at text =
    option_and_then (λ year. option_and_then (λ month. option_and_then (λ day. day_of_runs year month day)
    (part_at 45 month.rest)) (part_at 45 year.rest)) (digits_at text)

abbrev pub era_named : ℕ → ℕ → Option Bool
era_named a b =
    if a == 98 && b == 99 then Some true
    else (if a == 97 && b == 100 then Some false else None)

abbrev pub era_at : List ℕ → Option Bool
era_at [] = Some false
era_at (a ∷ []) = None
era_at (a ∷ (b ∷ text)) = if are_blanks text then era_named (to_ascii_lowercase a) (to_ascii_lowercase b) else None

-- whether a year is one before Christ, by what stands at the end: nothing, AD or BC
unfoldable pub is_before_of : List ℕ → Option Bool
is_before_of text = era_at (after_blanks text)

-- as it is sent
abbrev pub is_era_text : List ℕ → Bool
is_era_text text = bytes_eq text [] || bytes_eq text (codes " BC")

-- WHICH DAY IT IS

-- 4800 years more than by the count of astronomers, in which 1 BC is 0, so that none is below 0
abbrev pub shifted_year : Bool → ℕ → Option ℕ
shifted_year false year = if nat_le 1 year && nat_le year MAX_YEAR then Some (year + 4800) else None
shifted_year true year = if nat_le 1 year && nat_le year MAX_YEAR_BEFORE then Some (4801 - year) else None

abbrev pub is_leap : ℕ → Bool
is_leap year = year % 4 == 0 && (not (year % 100 == 0) || year % 400 == 0)

abbrev pub month_length : ℕ → ℕ → ℕ
month_length year month =
    if month == 2 then (if is_leap year then 29 else 28)
    else (if month == 4 || (month == 6 || (month == 9 || month == 11)) then 30 else 31)

abbrev pub is_in_calendar : ℕ → ℕ → ℕ → Bool
is_in_calendar year month day = (nat_le 1 month && nat_le month 12) && (nat_le 1 day && nat_le day (month_length year month))

-- the days up to a day of a year that begins with March, whose months are counted from 4 on, and up to Julian day 0 32167 of them
abbrev pub days_to : ℕ → ℕ → ℕ → Option ℕ
days_to year month day =
    if nat_le (year / 100 + 32167) (year * 365 + year / 4 + year / 400 + 7834 * month / 256 + day)
    then Some (year * 365 + year / 4 + year / 400 + 7834 * month / 256 + day - (year / 100 + 32167)) else None

-- January and February belong to the year before
abbrev pub julian_day : ℕ → ℕ → ℕ → Option ℕ
julian_day year month day = if nat_lt 2 month then days_to year (month + 1) day else days_to (year - 1) (month + 13) day

abbrev pub checked_day : ℕ → ℕ → ℕ → Option ℕ
checked_day year month day = if is_in_calendar year month day then julian_day year month day else None

-- None where the calendar has no such day, or it is out of range
unfoldable pub day_number : Bool → ℕ → ℕ → ℕ → Option ℕ
day_number is_before year month day = option_and_then (λ shifted. checked_day shifted month day) (shifted_year is_before year)

-- DATES

abbrev pub is_word : List ℕ → List ℕ → Bool
is_word word text = length text == length word && abridges 0 word text

-- minus infinity is 0, infinity after all days
abbrev pub named_day : List ℕ → Option ℕ
named_day word =
    if is_word (codes "epoch") word then Some (EPOCH_DAY + 1)
    else (if is_word (codes "infinity") word then Some INFINITE_DAY
    else (if is_word (codes "-infinity") word then Some 0 else None))

abbrev pub day_of_word : List ℕ → Option ℕ
day_of_word text = if are_blanks (drop (word_length text) text) then named_day (take (word_length text) text) else None

abbrev pub number_of_day : Day → Option ℕ
number_of_day written =
    option_and_then (λ is_before. option_map (λ day. day + 1) (day_number is_before written.year written.month written.day))
    (is_before_of written.rest)

abbrev pub finite_date : List ℕ → Option ℕ
finite_date text = option_and_then number_of_day (day_at text)

abbrev pub date_after : List ℕ → Option ℕ
date_after text = if is_some (day_at text) then finite_date text else day_of_word text

-- the number of the date that a text is taken for: by its order
unfoldable pub date_of : List ℕ → Option ℕ
date_of text = date_after (after_blanks text)

abbrev pub is_infinite_text : List ℕ → Bool
is_infinite_text text = bytes_eq text (codes "infinity") || bytes_eq text (codes "-infinity")

abbrev pub is_day_text : Day → Bool
is_day_text written = (written.is_padded && is_era_text written.rest) && is_some (number_of_day written)

-- as it is sent: year, month and day in four, two and two digits, and BC where it is before Christ
abbrev pub is_date_text : List ℕ → Bool
is_date_text text = is_infinite_text text || option_map_or is_day_text (day_at text) false
