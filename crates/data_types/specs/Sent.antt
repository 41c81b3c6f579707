-- Which texts PostgreSQL sends of the values of each type (PostgreSQL 15, 55.9), with DateStyle ISO, TimeZone UTC and bytea_output hex.
use Rattle.std.specs.Prelude.{ℕ, Bool, true, false, List}
use Rattle.data_types.specs.declared.data_type.DataType.{DataType}
use Rattle.data_types.specs.declared.data_type.DataType.TheVariants as types
use Rattle.data_types.specs.Bytes.{is_bytea_text}
use Rattle.data_types.specs.Calendar.{is_date_text}
use Rattle.data_types.specs.Characters.{has_no_zero, is_char_text, is_varchar_text}
use Rattle.data_types.specs.Clock.{is_time_text}
use Rattle.data_types.specs.Decimals.{is_numeric_text}
use Rattle.data_types.specs.Integers.{is_integer_text}
use Rattle.data_types.specs.Moments.{is_moment_text}
use Rattle.data_types.specs.Truths.{is_truth_text}
use Rattle.data_types.specs.Uuids.{is_uuid_text}

-- a type of which nothing is said here has none
unfoldable pub is_sent_text : DataType → List ℕ → Bool
is_sent_text types.Bool text = is_truth_text text
is_sent_text types.Int2 text = is_integer_text 15 text
is_sent_text types.Int4 text = is_integer_text 31 text
is_sent_text types.Int8 text = is_integer_text 63 text
is_sent_text (types.Numeric places) text = is_numeric_text places text
is_sent_text types.Text text = has_no_zero text
is_sent_text (types.Varchar limit) text = is_varchar_text limit text
is_sent_text (types.Char limit) text = is_char_text limit text
is_sent_text types.Bytea text = is_bytea_text text
is_sent_text types.Date text = is_date_text text
is_sent_text types.Time text = is_time_text text
is_sent_text types.Timestamp text = is_moment_text false text
is_sent_text types.Timestamptz text = is_moment_text true text
is_sent_text types.Uuid text = is_uuid_text text
is_sent_text other text = false
