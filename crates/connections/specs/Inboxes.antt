-- What statuses leave in an inbox.
use Rattle.std.specs.Prelude.{ℕ, Bool, true, false, Option, Some, None, max, min, ◌+◌, ◌-◌, ◌^◌}

-- the greatest position of those that came
abbrev pub flushed_after : Option ℕ → ℕ → Option ℕ
flushed_after None position = Some position
flushed_after (Some before) position = Some (max position before)

-- one more, where it asked for an answer; the greatest number stays
abbrev pub asked_after : ℕ → Bool → ℕ
asked_after asked true = min (asked + 1) (2 ^ 32 - 1)
asked_after asked false = asked

-- of the causes for which no more was written, the one that came first
abbrev pub first_cause : {E : Type 0} → Option E → E → E
first_cause None cause = cause
first_cause (Some first) cause = first
