-- How the stream of a slot is steered, and what passes to a client whose connection is to be cut after so many bytes.
use Rattle.std.specs.Prelude.{ℕ, Option, Some, None, min, true, false, ◌-◌}
use Rattle.connections.specs.declared.slot.stream_control.StreamControl.{StreamControl}
use Rattle.connections.specs.declared.slot.stream_control.StreamCommand.{StreamCommand}
use Rattle.connections.specs.declared.slot.stream_control.StreamCommand.TheVariants as control

-- each word changes what it names, and nothing else
abbrev pub control_after : StreamControl → StreamCommand → StreamControl
control_after old control.Hold = record old { is_held = true }
control_after old control.LetGo = record old { is_held = false }
control_after old control.Ask = record old { asks = true }
control_after old (control.Cut bytes) = record old { cut_behind = Some bytes }

-- how many of so many bytes pass
abbrev pub count_that_passes : Option ℕ → ℕ → ℕ
count_that_passes None count = count
count_that_passes (Some left) count = min left count

-- how many are left to pass after so many
abbrev pub left_behind : Option ℕ → ℕ → Option ℕ
left_behind None count = None
left_behind (Some left) count = Some (left - count)
