use Rattle.std.proofs.Common.{◌≡◌, ◌++◌, take}
use Rattle.std.specs.List.{flat_map}
use Rattle.server.specs.Arrays.{further_element}
use Rattle.server.proofs.said.array.push_others.Given as goal

abbrev pub invariant-loop-text : goal.invariant-loop-text
invariant-loop-text l = l.array.items ≡ l.fn.array.items ++ flat_map further_element (take l.text-index l.texts)
