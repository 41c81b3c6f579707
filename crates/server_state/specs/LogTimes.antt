-- When the log came past which position, by marks: where it ended once something was written, and when that was.
use Rattle.std.specs.Prelude.{◌≡◌, ℕ, ◌≤◌, nat_lt, max, min, List, [], ◌∷◌, ◌++◌, Option, Some, None, if◌then◌else◌, option_to_list}
use Rattle.server_state.specs.declared.kept.log_times.LogTimes.{LogTimes}
use Rattle.server_state.specs.declared.kept.log_times.LogTime.{LogTime}

-- at the first mark that lies further
abbrev pub past : ℕ → List LogTime → Option ℕ
past position [] = None
past position (m ∷ ms) = if nat_lt position m.end then Some m.at else past position ms

-- a time that isn't later, and none where there was none
abbrev pub IsNoLater : Option ℕ → Option ℕ → Type 0
IsNoLater None new = new ≡ None
IsNoLater (Some old) None = ⊥
IsNoLater (Some old) (Some new) = new ≤ old

-- of each position these marks tell a time that isn't later than those do
abbrev pub TellNoLater : List LogTime → List LogTime → Type 0
TellNoLater old new = (position : ℕ) → IsNoLater (past position old) (past position new)

-- one mark for two
abbrev pub merged : LogTime → LogTime → LogTime
merged a b = record { end = max a.end b.end; at = min a.at b.at }

-- the last one stands apart
abbrev pub marks_of : LogTimes → List LogTime
marks_of times = times.marks.items ++ option_to_list times.last
