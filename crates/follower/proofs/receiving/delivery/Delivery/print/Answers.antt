use Rattle.std.proofs.Common.{ap}
use Rattle.follower.proofs.Going.{failing, printing}
use Rattle.follower.specs.declared.receiving.delivery.Delivery.{Delivery}
use Rattle.follower.proofs.receiving.delivery.Delivery.print.Goals as goal

pub returns-in_err-hand-clause-goes : goal.returns-in_err-hand-clause-goes
returns-in_err-hand-clause-goes g c = λ unread sent.
    failing g.W.Write.contents g.W.Output.kept c.as_slice.result.now unread c.args.self.now c.lines.new.self c.hand.new.self c.args.output.now c.hand.new.output sent
    (ap (λ (d : Delivery). d.receiver) c.lines.ensures.same) (ap (λ (d : Delivery). d.is_broken) c.lines.ensures.same) (ap (λ (d : Delivery). d.receiver) c.hand.ensures.same) c.in_err-hand.ensures.err

pub returns-clause-goes : goal.returns-clause-goes
returns-clause-goes g c = λ unread sent.
    printing c.as_slice.result.now unread c.args.self.now c.lines.new.self c.hand.new.self c.printed.new.self.applier (g.W.Write.contents c.args.output.now) (g.W.Write.contents c.hand.new.output) (g.W.Output.kept c.args.output.now) (g.W.Output.kept c.hand.new.output) sent
    (ap (λ (d : Delivery). d.receiver) c.lines.ensures.same) (ap (λ (d : Delivery). d.is_broken) c.lines.ensures.same) (ap (λ (d : Delivery). d.receiver) c.hand.ensures.same) (ap (λ i. i.applier) c.printed.ensures) c.in_ok-hand.ensures.ok
