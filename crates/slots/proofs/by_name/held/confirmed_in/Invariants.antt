use Rattle.std.proofs.Common.{◌≡◌, drop}
use Rattle.slots.specs.Words.{confirmed_in}
use Rattle.slots.proofs.by_name.held.confirmed_in.Given as goal

abbrev pub invariant-loop-slot : goal.invariant-loop-slot
invariant-loop-slot l = confirmed_in l.fn.name (drop l.slot-index l.slots) ≡ confirmed_in l.fn.name l.slots
