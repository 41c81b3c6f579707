use Rattle.slots.proofs.Leases.{all_leased_on}
use Rattle.slots.proofs.Claims.{create_else}
use Rattle.slots.proofs.by_name.held.HeldSlots.create.Goals as goal

pub invariant_of-self : goal.invariant_of-self
invariant_of-self g c =
    (c.self.invariant.0, all_leased_on c.self.inside.slots c.create.new.self _ (create_else c.args.name.now c.args.position c.self.inside.slots c.create.new.self c.create.result c.create.ensures.ok c.create.ensures.err) c.self.invariant.1)
