use Rattle.std.proofs.Common.{length}
use Rattle.replcmd.specs.Commands.{more_settings, settings_at}
use Rattle.replcmd.specs.Settings.{setting_at}
use Rattle.replcmd.proofs.Lists.{Going}
use Rattle.replcmd.proofs.clauses.setting.settings_of.Given as goal

abbrev pub invariant-loop-settings : goal.invariant-loop-settings
invariant-loop-settings l = Going (setting_at l.strictness) more_settings l.settings.items l.tokens (settings_at l.strictness l.initial.tokens)

abbrev pub decreases-loop-settings : goal.decreases-loop-settings
decreases-loop-settings l = length l.tokens
