use Rattle.std.proofs.Common.{◌≡◌, take}
use Rattle.std.specs.List.{flat_map}
use Rattle.server.specs.RowText.{copied_byte}
use Rattle.server.proofs.said.row_text.is_plain.Given as goal

abbrev pub invariant-loop-byte : goal.invariant-loop-byte
invariant-loop-byte l = flat_map copied_byte (take l.byte-index l.value) ≡ take l.byte-index l.value
