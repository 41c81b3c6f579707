use Rattle.std.proofs.Common.{◌∙◌}
use Rattle.walsender.proofs.Lent.{holds_as}
use Rattle.walsender.proofs.sender.Sender.holds_bytes.Goals as goal

pub returns : goal.returns
returns c =
    let i = c.self.inside in
    rw (← c.self.view_is) (c.holds_bytes.ensures ∙ holds_as i.selection i.reorder i.outgoing c.self.invariant)
