use Rattle.std.proofs.Common.{[]}
use Rattle.follower.proofs.Going.{begun_over, goes_then, refused_over}
use Rattle.follower.proofs.resuming.resume.Goals as goal

pub returns-in_err-ask_for_stream-clause-goes : goal.returns-in_err-ask_for_stream-clause-goes
returns-in_err-ask_for_stream-clause-goes g c = λ unread. (
  [],
  refused_over unread c.args.subscription.now.delivery c.ask_for_stream.new.self.delivery (g.W.Write.contents c.args.output.now) (g.W.Write.contents c.ask_for_stream.new.output) (g.W.Output.kept c.args.output.now) (g.W.Output.kept c.ask_for_stream.new.output)
      (g.S.Write.contents c.args.socket.now) (g.S.Write.contents c.ask_for_stream.new.socket) c.ask_for_stream.ensures.written c.in_err-ask_for_stream.ensures.err,
)

pub returns-in-Err-Output-clause-goes : goal.returns-in-Err-Output-clause-goes
returns-in-Err-Output-clause-goes g c = λ unread.
    (c.take_frames-ended.new.incoming.unread.items, begun_over unread _ _ c.args.subscription.now.delivery c.ask_for_stream.new.self.delivery c.take_frames-ended.new.self.delivery _ _ _ _ _ _ _ _ _ c.ask_for_stream.ensures.written c.in_ok-ask_for_stream.ensures.ok c.take_frames-ended.ensures.goes)

pub returns-in_default-clause-goes : goal.returns-in_default-clause-goes
returns-in_default-clause-goes g c = λ unread.
    let left = c.take_frames-ended.new.incoming.unread.items in
    (left, begun_over unread _ _ c.args.subscription.now.delivery c.ask_for_stream.new.self.delivery c.finish.new.self.delivery _ _ _ _ _ _ _ _ _ c.ask_for_stream.ensures.written c.in_ok-ask_for_stream.ensures.ok (goes_then _ _ _ c.take_frames-ended.ensures.goes (c.finish.ensures.goes left)))
