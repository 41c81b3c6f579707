-- time (PostgreSQL 15, 8.5), without a zone, in microseconds.
use Rattle.std.specs.Prelude.{ℕ, ◌+◌, ◌-◌, ◌*◌, ◌/◌, ◌%◌, ◌^◌, ◌==◌, ◌&&◌, ◌||◌, Bool, true, false, not, List, [], ◌∷◌, nat_lt, nat_le, Option, Some, None, if◌then◌else◌}
use Rattle.std.specs.Option.{option_and_then, option_map, option_map_or}
use Rattle.data_types.specs.Digits.{Run, digits_at, after_blanks, are_blanks}
use Rattle.data_types.specs.Calendar.{part_at}
use Rattle.data_types.specs.declared.texts.clock.WrittenSeconds.{WrittenSeconds}
use Rattle.data_types.specs.declared.texts.clock.WrittenTime.{WrittenTime}
use Rattle.data_types.specs.declared.texts.clock.TheConstants.{DAY_MICROSECONDS}

-- seconds and their fraction, whether they are written as they are sent, and what stands after them
pub record Seconds : Type 0 where
  pub seconds : ℕ
  pub microseconds : ℕ
  pub is_padded : Bool
  pub rest : List ℕ

abbrev pub lent_seconds : WrittenSeconds → Seconds
lent_seconds it = record { seconds = it.seconds; microseconds = it.microseconds; is_padded = it.is_padded; rest = it.rest.now }

-- what a digit at the end is worth, of so many after the point
abbrev pub last_digit_worth : ℕ → ℕ
last_digit_worth count =
    if count == 1 then 100000
    else (if count == 2 then 10000
    else (if count == 3 then 1000
    else (if count == 4 then 100
    else (if count == 5 then 10 else 1))))

-- one to six digits; as they are sent, none of them is a zero at the end
abbrev pub fraction_of : Run → Run → Option Seconds
fraction_of seconds fraction =
    if (nat_lt 0 fraction.count && nat_le fraction.count 6) && nat_lt fraction.value 1000000
    then Some record {
      seconds = seconds.value;
      microseconds = fraction.value * last_digit_worth fraction.count;
      is_padded = seconds.count == 2 && not (fraction.value % 10 == 0);
      rest = fraction.rest;
    }
    else None

abbrev pub whole_seconds : Run → Seconds
whole_seconds seconds = record { seconds = seconds.value; microseconds = 0; is_padded = seconds.count == 2; rest = seconds.rest }

abbrev pub with_fraction : Run → List ℕ → Option Seconds
with_fraction seconds [] = Some (whole_seconds seconds)
with_fraction seconds (b ∷ text) =
    if b == 46 then option_and_then (λ fraction. fraction_of seconds fraction) (digits_at text)
    else Some (whole_seconds seconds)

abbrev pub no_seconds : List ℕ → Seconds
no_seconds text = record { seconds = 0; microseconds = 0; is_padded = false; rest = text }

-- none are meant where no colon stands
abbrev pub seconds_at : List ℕ → Option Seconds
seconds_at [] = Some (no_seconds [])
seconds_at (b ∷ text) =
    if b == 58 then option_and_then (λ seconds. with_fraction seconds seconds.rest) (part_at 58 (b ∷ text))
    else Some (no_seconds (b ∷ text))

-- a time in microseconds since midnight, whether it is written as it is sent, and what stands after it
pub record Time : Type 0 where
  pub microseconds : ℕ
  pub is_padded : Bool
  pub rest : List ℕ

abbrev pub lent_time : WrittenTime → Time
lent_time it = record { microseconds = it.microseconds; is_padded = it.is_padded; rest = it.rest.now }

abbrev pub microseconds_of : ℕ → ℕ → Seconds → ℕ
microseconds_of hour minute it = ((hour * 60 + minute) * 60 + it.seconds) * 1000000 + it.microseconds

-- 60 seconds are the next minute
abbrev pub is_on_clock : ℕ → ℕ → Seconds → Bool
is_on_clock hour minute it = (nat_le hour 24 && nat_le minute 59) && (nat_le it.seconds 60 && nat_lt it.microseconds 1000000)

abbrev pub time_of_parts : Run → Run → Seconds → Option Time
time_of_parts hour minute it =
    if is_on_clock hour.value minute.value it && nat_le (microseconds_of hour.value minute.value it) DAY_MICROSECONDS
    then Some record {
      microseconds = microseconds_of hour.value minute.value it;
      is_padded = (hour.count == 2 && minute.count == 2) && (it.is_padded && nat_lt it.seconds 60);
      rest = it.rest;
    }
    else None

-- hours and minutes, and seconds where they stand there
unfoldable pub time_at : List ℕ → Option Time
time_at text =
    option_and_then (λ hour. option_and_then (λ minute. option_and_then (λ seconds. time_of_parts hour minute seconds)
    (seconds_at minute.rest)) (part_at 58 hour.rest)) (digits_at text)

abbrev pub whole_time : Time → Option ℕ
whole_time time = if are_blanks time.rest then Some time.microseconds else None

-- the microseconds since midnight of the time that a text is taken for; 24:00:00 is the end of a day
abbrev pub time_of : List ℕ → Option ℕ
time_of text = option_and_then whole_time (time_at (after_blanks text))

abbrev pub is_empty : List ℕ → Bool
is_empty [] = true
is_empty (b ∷ text) = false

abbrev pub is_sent_time : Time → Bool
is_sent_time time = time.is_padded && is_empty time.rest

-- as it is sent: hours, minutes and seconds in two digits each, and up to six after the point, of which the last is no zero
abbrev pub is_time_text : List ℕ → Bool
is_time_text text = option_map_or is_sent_time (time_at text) false
