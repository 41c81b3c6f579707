use Rattle.std.proofs.Common.{Ok}
use Rattle.std.specs.Int.{w64}
use Rattle.std.proofs.lemmas.Int.{to_z-of_z}
use Rattle.walsender.specs.Outgoing.{lent_of, sent_of, settled_of}
use Rattle.walsender.proofs.Growing.{bytes_added, lent_kept, sent_kept, settled_kept}
use Rattle.walsender.proofs.States.{same_state}
use Rattle.walsender.proofs.sender.Sender.keepalive.Goals as goal

pub invariant_of-self-2 : goal.invariant_of-self-2
invariant_of-self-2 c = (bytes_added c.self.inside.selection c.self.inside.reorder c.self.inside.outgoing c.keepalive.new.self _ c.keepalive.result c.self.invariant c.keepalive.ensures.adds).0

pub returns-clause-ok : goal.returns-clause-ok
returns-clause-ok c =
    let i = c.self.inside in
    let o = c.keepalive.new.self in
    let adds = rw (to_z-of_z w64 c.args.clock c.ranges.clock) at c.in_ok-keepalive.ensures.adds in
    let g = bytes_added i.selection i.reorder i.outgoing o _ (Ok tt) c.self.invariant adds in
    rw (← c.self.view_is) (same_state i.selection i.start i.position i.failed _ _ (sent_of i.selection i.reorder o) (sent_of i.selection i.reorder i.outgoing) (settled_of i.reorder o) (settled_of i.reorder i.outgoing) (lent_of i.reorder o) (lent_of i.reorder i.outgoing) g.1
    (sent_kept i.selection i.reorder i.outgoing o c.self.invariant adds.frames adds.rest) (settled_kept i.selection i.reorder i.outgoing o c.self.invariant adds.frames adds.rest) (lent_kept i.selection i.reorder i.outgoing o c.self.invariant adds.frames adds.rest))
