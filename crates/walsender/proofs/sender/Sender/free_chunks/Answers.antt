use Rattle.std.proofs.Common.{◌+◌, ap, ◌∙◌}
use Rattle.reorder.proofs.Settling.{settled_taken}
use Rattle.walsender.specs.Waiting.{ready_states}
use Rattle.reorder.specs.Chunks.{live_chunks}
use Rattle.walsender.proofs.Lasting.{lent_held, lent_sum}
use Rattle.walsender.proofs.Sized.{free_beside}
use Rattle.walsender.proofs.sender.Sender.free_chunks.Goals as goal

pub returns-clause-exact : goal.returns-clause-exact
returns-clause-exact c =
    let i = c.self.inside in
    let ws = ready_states i.outgoing.waiting.items in
    rw (← c.self.view_is) (λ rs count read tidy. record {
      all = ap (λ n. c.free_chunks.result + live_chunks rs + n) (lent_sum i.reorder i.outgoing.waiting.items)
          ∙ c.free_chunks.ensures.exact_beside rs ws count (settled_taken i.reorder ws rs c.self.invariant.lent read.taken) c.self.invariant.lent tidy;
      sent = read.lent;
      held = lent_held i.selection i.reorder i.outgoing;
    })

pub returns-clause-free : goal.returns-clause-free
returns-clause-free c =
    let i = c.self.inside in
    rw (← c.self.view_is) (free_beside i.reorder i.outgoing.waiting.items c.free_chunks.result c.self.invariant.lent c.free_chunks.ensures.free)
