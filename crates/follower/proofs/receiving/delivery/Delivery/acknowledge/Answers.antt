use Rattle.follower.proofs.Going.{telling, goes_then}
use Rattle.follower.proofs.receiving.delivery.Delivery.acknowledge.Goals as goal

pub returns-clause-goes : goal.returns-clause-goes
returns-clause-goes g c = λ unread.
    goes_then _ _ _ (c.print.ensures.goes unread (g.S.Write.contents c.args.socket.now))
    (telling c.print.new.self.clock c.args.ask unread c.print.new.self (g.W.Write.contents c.print.new.output) (g.W.Output.kept c.print.new.output) (g.S.Write.contents c.args.socket.now) (g.S.Write.contents c.send_status.new.socket) c.in_ok-print.ensures.settled
    c.in_ok-print.ensures.kept c.send_status.ensures.part)
