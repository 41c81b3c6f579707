use Rattle.std.proofs.Common.{◌≡◌, ◌++◌, take}
use Rattle.std.specs.List.{flat_map}
use Rattle.server.specs.Arrays.{escaped_byte}
use Rattle.server.proofs.said.array.push_escaped.Given as goal

abbrev pub invariant-loop-byte : goal.invariant-loop-byte
invariant-loop-byte l = l.array.items ≡ l.fn.array.items ++ flat_map escaped_byte (take l.byte-index l.text)
