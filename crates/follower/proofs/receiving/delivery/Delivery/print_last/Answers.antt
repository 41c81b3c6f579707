use Rattle.std.proofs.Common.{ap}
use Rattle.follower.proofs.Going.{summing}
use Rattle.follower.specs.declared.receiving.delivery.Delivery.{Delivery}
use Rattle.follower.proofs.receiving.delivery.Delivery.print_last.Goals as goal

pub returns-clause-goes : goal.returns-clause-goes
returns-clause-goes g c = λ unread sent.
    summing g.W.Write.contents g.W.Output.kept c.as_slice.result.now unread c.args.self.now c.hand.new.self c.args.output.now c.hand.new.output sent c.hand.result c.requires (ap (λ (d : Delivery). d.receiver) c.hand.ensures.same) c.hand.ensures.ok c.hand.ensures.err
