-- How long a client takes to confirm what was sent to it, in microseconds: `flush_lag` of pg_stat_replication (PostgreSQL 15, 28.2.3),
-- by one position at a time.
use Rattle.std.specs.Prelude.{ℕ, nat_lt, ◌-◌, max, Option, Some, None, if◌then◌else◌}
use Rattle.connections.specs.declared.slot.flush_lag.Sent.{Sent}

-- what was read and sent beyond what is confirmed is due from now on
abbrev pub due_anew : (read confirmed now : ℕ) → Option Sent
due_anew read confirmed now = if nat_lt confirmed read then Some (record { position = read; at = now }) else None

-- one that isn't confirmed stays due
abbrev pub due_after : (read confirmed now : ℕ) → Option Sent → Option Sent
due_after read confirmed now None = due_anew read confirmed now
due_after read confirmed now (Some sent) = if nat_lt confirmed sent.position then Some sent else due_anew read confirmed now

-- one that is confirmed was measured
abbrev pub last_after : (confirmed now : ℕ) → Option Sent → Option ℕ → Option ℕ
last_after confirmed now None last = last
last_after confirmed now (Some sent) last = if nat_lt confirmed sent.position then last else Some (now - sent.at)

-- what was measured last, or for how long the due one waits, if that is more
abbrev pub told_lag : ℕ → Option Sent → Option ℕ → Option ℕ
told_lag now None last = last
told_lag now (Some sent) None = Some (now - sent.at)
told_lag now (Some sent) (Some last) = Some (max (now - sent.at) last)
