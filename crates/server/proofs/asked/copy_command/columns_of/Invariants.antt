use Rattle.std.proofs.Common.{◌-◌, length}
use Rattle.std.specs.Str.{IsUtf8}
use Rattle.server.specs.declared.asked.copy_command.TheConstants.{MOST_COLUMNS}
use Rattle.server.proofs.CopyColumns.{Going}
use Rattle.server.proofs.asked.copy_command.columns_of.Given as goal

abbrev pub invariant-loop-place : goal.invariant-loop-place
invariant-loop-place l = record {
  going : Going l.text l.columns.items l.place;
  valid : IsUtf8 l.place;
}

abbrev pub decreases-loop-place : goal.decreases-loop-place
decreases-loop-place l = MOST_COLUMNS - length l.columns.items
