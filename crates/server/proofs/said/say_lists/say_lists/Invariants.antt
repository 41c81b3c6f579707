use Rattle.std.proofs.Common.{◌≡◌, ◌++◌, take}
use Rattle.std.specs.List.{flat_map}
use Rattle.server.specs.TableAnswers.{list_row}
use Rattle.server.proofs.said.say_lists.say_lists.Given as goal

abbrev pub invariant-loop-numbers : goal.invariant-loop-numbers
invariant-loop-numbers l = l.out.items ≡ l.fn.out.items ++ flat_map list_row (take l.numbers-index l.lists)
