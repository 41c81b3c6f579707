use Rattle.std.proofs.Common.{◌≡◌, ◌++◌, take}
use Rattle.std.specs.List.{flat_map}
use Rattle.server.specs.TableAnswers.{filter_row}
use Rattle.server.proofs.said.say_lists.say_filters.Given as goal

abbrev pub invariant-loop-filter : goal.invariant-loop-filter
invariant-loop-filter l = l.out.items ≡ l.fn.out.items ++ flat_map filter_row (take l.filter-index l.filters)
