use Rattle.std.proofs.Common.{◌≡◌, length, false}
use Rattle.pqformat.specs.Quoting.{in_front, quoted_at}
use Rattle.pqformat.proofs.quoted.quoted_bytes.Given as goal

abbrev pub invariant-loop-b : goal.invariant-loop-b
invariant-loop-b l = in_front l.found.items (quoted_at false l.quote l.rest) ≡ quoted_at false l.quote l.text

abbrev pub decreases-loop-b : goal.decreases-loop-b
decreases-loop-b l = length l.rest
