use Rattle.std.proofs.Common.{◌≡◌, length}
use Rattle.std.specs.Str.Parse.{digits_value, digits_value_after}
use Rattle.pqformat.proofs.decimal.decimal_of.Given as goal

abbrev pub invariant-loop-b : goal.invariant-loop-b
invariant-loop-b l = digits_value_after 10 l.value l.rest ≡ digits_value 10 l.digits

abbrev pub decreases-loop-b : goal.decreases-loop-b
decreases-loop-b l = length l.rest
