-- timestamp and timestamptz (PostgreSQL 15, 8.5): a date, a time, for timestamptz a distance from UTC, and the era.
use Rattle.std.specs.Prelude.{ℕ, ◌+◌, ◌-◌, ◌*◌, ◌==◌, ◌&&◌, ◌||◌, Bool, true, false, List, [], ◌∷◌, codes, length, take, drop, nat_lt, nat_le, is_some, Option, Some, None, if◌then◌else◌}
use Rattle.std.specs.Option.{option_and_then, option_map, option_map_or}
use Rattle.std.specs.Char.{is_ascii_digit}
use Rattle.data_types.specs.Digits.{Run, digits_at, after_blanks, are_blanks, word_length}
use Rattle.data_types.specs.Calendar.{Day, lent_day, day_at, day_number, is_before_of, is_era_text, is_infinite_text, is_word, part_at}
use Rattle.data_types.specs.Clock.{Time, lent_time, time_at}
use Rattle.data_types.specs.declared.texts.moment.WrittenMoment.{WrittenMoment}
use Rattle.data_types.specs.declared.texts.moment.WrittenZone.{WrittenZone}
use Rattle.data_types.specs.declared.texts.clock.TheConstants.{DAY_MICROSECONDS}
use Rattle.data_types.specs.declared.texts.calendar.TheConstants.{EPOCH_DAY}
use Rattle.data_types.specs.declared.texts.moment.TheConstants.{END_DAY, INFINITE_MOMENT}

-- THE TIME OF A DAY

abbrev pub begins_with_digit : List ℕ → Bool
begins_with_digit [] = false
begins_with_digit (b ∷ text) = is_ascii_digit b

abbrev pub midnight : List ℕ → Time
midnight text = record { microseconds = 0; is_padded = false; rest = text }

-- a blank is sent before a time, and a T is taken too
abbrev pub is_before_time : ℕ → Bool
is_before_time b = b == 32 || (b == 84 || b == 116)

abbrev pub spaced : ℕ → Time → Time
spaced b time = record { microseconds = time.microseconds; is_padded = time.is_padded && b == 32; rest = time.rest }

-- midnight where no time stands after a day
abbrev pub time_after : List ℕ → Option Time
time_after [] = Some (midnight [])
time_after (b ∷ text) =
    if is_before_time b && begins_with_digit text then option_map (λ time. spaced b time) (time_at text)
    else Some (midnight (b ∷ text))

-- THE DISTANCE FROM UTC

-- in seconds, ahead or not; whether it is written as it is sent, and what stands after it
pub record Zone : Type 0 where
  pub is_ahead : Bool
  pub seconds : ℕ
  pub is_padded : Bool
  pub rest : List ℕ

abbrev pub lent_zone : WrittenZone → Zone
lent_zone it = record { is_ahead = it.is_ahead; seconds = it.seconds; is_padded = it.is_padded; rest = it.rest.now }

abbrev pub no_zone : List ℕ → Zone
no_zone text = record { is_ahead = true; seconds = 0; is_padded = false; rest = text }

abbrev pub zone_of : Bool → ℕ → ℕ → Bool → List ℕ → Option Zone
zone_of is_ahead hour minute is_padded rest =
    if nat_le hour 15 && nat_le minute 59
    then Some record { is_ahead = is_ahead; seconds = (hour * 60 + minute) * 60; is_padded = is_padded; rest = rest }
    else None

abbrev pub zone_by_minute : Bool → Run → Option Run → Option Zone
zone_by_minute is_ahead hour None =
    zone_of is_ahead hour.value 0 (is_ahead && (hour.count == 2 && hour.value == 0)) hour.rest
zone_by_minute is_ahead hour (Some minute) = zone_of is_ahead hour.value minute.value false minute.rest

-- hours alone, or hours and minutes with a colon between
abbrev pub zone_by_hour : Bool → Run → Option Zone
zone_by_hour is_ahead hour =
    if nat_lt 2 hour.count then None
    else zone_by_minute is_ahead hour (part_at 58 hour.rest)

abbrev pub signed_zone : Bool → List ℕ → Option Zone
signed_zone is_ahead text = option_and_then (λ hour. if nat_lt 0 hour.count then zone_by_hour is_ahead hour else None) (digits_at text)

-- a sign and hours; Z is UTC, and so is nothing
abbrev pub zone_at : List ℕ → Option Zone
zone_at [] = Some (no_zone [])
zone_at (b ∷ text) =
    if b == 43 then signed_zone true text
    else (if b == 45 then signed_zone false text
    else (if b == 90 || b == 122 then Some (no_zone text)
    else Some (no_zone (b ∷ text))))

-- a timestamp has none
abbrev pub zone_after : Bool → List ℕ → Option Zone
zone_after true text = zone_at text
zone_after false text = Some record { is_ahead = true; seconds = 0; is_padded = true; rest = text }

-- WHICH MOMENT IT IS

abbrev pub in_range : Option ℕ → Option ℕ
in_range None = None
in_range (Some n) = if nat_lt n (END_DAY * DAY_MICROSECONDS) then Some (n + 1) else None

-- microseconds since Julian day 0 at UTC, and one; None where that is out of range
abbrev pub moment_number : ℕ → ℕ → Zone → Option ℕ
moment_number day microseconds zone =
    if nat_lt END_DAY day then None
    else in_range (if zone.is_ahead
    then (if nat_le (zone.seconds * 1000000) (day * DAY_MICROSECONDS + microseconds)
    then Some (day * DAY_MICROSECONDS + microseconds - zone.seconds * 1000000) else None)
    else Some (day * DAY_MICROSECONDS + microseconds + zone.seconds * 1000000))

-- a day, a time and a distance, and what stands after them
pub record Moment : Type 0 where
  pub day : Day
  pub time : Time
  pub zone : Zone

abbrev pub lent_moment : WrittenMoment → Moment
lent_moment it = record { day = lent_day it.day; time = lent_time it.time; zone = lent_zone it.zone }

unfoldable pub moment_at : Bool → List ℕ → Option Moment
moment_at is_zoned text =
    option_and_then (λ day. option_and_then (λ time. option_map (λ zone. record { day = day; time = time; zone = zone })
    (zone_after is_zoned time.rest)) (time_after day.rest)) (day_at text)

abbrev pub number_of_moment : Moment → Option ℕ
number_of_moment it =
    option_and_then (λ is_before. option_and_then (λ day. moment_number day it.time.microseconds it.zone)
    (day_number is_before it.day.year it.day.month it.day.day)) (is_before_of it.zone.rest)

-- minus infinity is 0, infinity after all moments
abbrev pub named_moment : List ℕ → Option ℕ
named_moment word =
    if is_word (codes "epoch") word then Some (EPOCH_DAY * DAY_MICROSECONDS + 1)
    else (if is_word (codes "infinity") word then Some INFINITE_MOMENT
    else (if is_word (codes "-infinity") word then Some 0 else None))

abbrev pub moment_of_word : List ℕ → Option ℕ
moment_of_word text = if are_blanks (drop (word_length text) text) then named_moment (take (word_length text) text) else None

abbrev pub number_of_some : List ℕ → Option Moment → Option ℕ
number_of_some text None = moment_of_word text
number_of_some text (Some it) = number_of_moment it

-- the number of the moment that a text is taken for, with a distance from UTC or without: by its order
unfoldable pub moment_of : Bool → List ℕ → Option ℕ
moment_of is_zoned text = number_of_some (after_blanks text) (moment_at is_zoned (after_blanks text))

abbrev pub is_sent_moment : Moment → Bool
is_sent_moment it =
    ((it.day.is_padded && it.time.is_padded) && (nat_lt it.time.microseconds DAY_MICROSECONDS && it.zone.is_padded))
    && (is_era_text it.zone.rest && is_some (number_of_moment it))

-- as it is sent: a date and a time, at +00, and BC where it is before Christ
abbrev pub is_moment_text : Bool → List ℕ → Bool
is_moment_text is_zoned text = is_infinite_text text || option_map_or is_sent_moment (moment_at is_zoned text) false
