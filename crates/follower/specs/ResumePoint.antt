-- What an output holds, line by line.
use Rattle.std.specs.Prelude.{ℕ, ◌+◌, ◌-◌, ◌^◌, ◌==◌, ◌||◌, ◌&&◌, Bool, not, min, List, [], ◌∷◌, Option, Some, None, if◌then◌else◌}
use Rattle.follower.specs.declared.resume_point.ResumePoint.{ResumePoint}
use Rattle.follower.specs.declared.printing.line.Line.{Line}

-- after a Commit or a note all lines up to it count
abbrev pub kept_up_to_end : ResumePoint → Option ℕ → ResumePoint
kept_up_to_end k None = k
kept_up_to_end k (Some end) = record {
  length = min (k.length + k.rest) (2 ^ 64 - 1);
  transactions = min (k.transactions + 1) (2 ^ 32 - 1);
  changes = min (k.changes + k.rest_changes) (2 ^ 64 - 1);
  position = end;
  rest = 0;
  rest_changes = 0;
  is_foreign = k.is_foreign;
}

abbrev pub more_by : ℕ → Bool → ℕ
more_by count is_one = if is_one then min (count + 1) (2 ^ 64 - 1) else count

-- after whole transactions and notes only one that begins is a run's own, and within a transaction no note
abbrev pub with_line : ResumePoint → Line → ResumePoint
with_line k line = kept_up_to_end (record k { rest = min (k.rest + line.length) (2 ^ 64 - 1); rest_changes = more_by k.rest_changes line.is_change; is_foreign = k.is_foreign || (k.rest == 0 && not line.begins) || (not (k.rest == 0) && line.is_note) }) line.end

-- line after line
abbrev pub with_lines : ResumePoint → List Line → ResumePoint
with_lines k [] = k
with_lines k (line ∷ lines) = with_lines (with_line k line) lines
