-- The clock of PostgreSQL's replication protocol (55.4): the number of microseconds since midnight on 2000-01-01, which is signed. Midnight on
-- 2000-01-01 came 946,684,800 seconds after the beginning of 1970.
use Rattle.std.specs.Prelude.{ℕ, ℤ, pos, ◌-ℤ◌, ◌/◌, nat_lt, ◌*◌, ◌^◌, if◌then◌else◌, Option, Some, None}

-- so many nanoseconds after the beginning of 1970, as far as 64 bits with a sign take it
abbrev pub clock_at : ℕ → Option ℤ
clock_at nanos = if nat_lt (nanos / 1_000) (2 ^ 63) then Some (pos (nanos / 1_000) -ℤ pos (946_684_800 * 1_000_000)) else None
