use Rattle.std.proofs.Common.{arith}
use Rattle.slots.proofs.Steps.{may_claim}
use Rattle.slots.proofs.rule.no_slot_has_two_holders.Goals as goal

pub returns : goal.returns
returns c = λ s kept p j k v w first second mine theirs.
    let a = (kept.places p j v first).named mine in
    let b = (kept.places p k w second).named theirs in
    omega arith
