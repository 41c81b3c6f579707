use Rattle.std.proofs.Common.{◌≡◌, length, None, false}
use Rattle.std.specs.Vec.Iter.{into_iter_items, into_iter_len}
use Rattle.replcmd.specs.Settings.{options_of_settings}
use Rattle.replcmd.proofs.clauses.setting.summed.Given as goal

abbrev pub invariant-loop-setting : goal.invariant-loop-setting
invariant-loop-setting l = (options_of_settings l.version l.publications l.messages (into_iter_items l.setting-iterator) ≡ options_of_settings false None None (into_iter_items l.initial.setting-iterator))
    × (into_iter_len l.setting-iterator ≡ length (into_iter_items l.setting-iterator))
