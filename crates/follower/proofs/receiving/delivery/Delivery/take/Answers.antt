use Rattle.follower.proofs.Going.{receiving, goes_then}
use Rattle.follower.proofs.receiving.delivery.Delivery.take.Goals as goal

pub returns : goal.returns
returns g c = record {
  goes = λ rest.
      goes_then _ _ _ (receiving c.args.bytes.now rest c.args.self.now c.take-taken.new.self.applier (g.W.Write.contents c.args.output.now) (g.W.Output.kept c.args.output.now) (g.S.Write.contents c.args.socket.now) c.take-taken.result c.take-taken.ensures.takes)
      (c.answer.ensures.goes rest);
}
