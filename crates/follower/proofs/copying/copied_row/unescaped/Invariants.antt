use Rattle.std.proofs.Common.{◌≡◌, ◌++◌, false, drop}
use Rattle.follower.proofs.CopiedValues.{told}
use Rattle.follower.proofs.copying.copied_row.unescaped.Given as goal

abbrev pub invariant-loop-byte : goal.invariant-loop-byte
invariant-loop-byte l = l.bytes.items ++ told l.is_escaped (drop l.byte-index l.field) ≡ told false l.field
