use Rattle.txlog.proofs.publisher.Publisher.tell.Goals as goal

pub invariant_of-self : goal.invariant_of-self
invariant_of-self g c = rw c.tell.ensures.same c.self.invariant
