use Rattle.std.proofs.Common.{◌≡◌, true, take}
use Rattle.std.specs.List.{list_all}
use Rattle.server.specs.Copies.{goes_on_in_name}
use Rattle.server.proofs.asked.copy_command.split_name.Given as goal

abbrev pub invariant-loop-place : goal.invariant-loop-place
invariant-loop-place l = list_all goes_on_in_name (take l.place l.text) ≡ true
