use Rattle.std.proofs.Common.{[]}
use Rattle.follower.proofs.Going.{begun_over, refused_over}
use Rattle.follower.proofs.copying.printed_copy.copy_rows.Goals as goal

pub returns-in_err-made-clause-goes : goal.returns-in_err-made-clause-goes
returns-in_err-made-clause-goes g c = λ unread. (
  [],
  refused_over unread c.args.subscription.now.delivery c.ask_for_copy.new.self.delivery (g.W.Write.contents c.args.output.now) (g.W.Write.contents c.ask_for_copy.new.output) (g.W.Output.kept c.args.output.now) (g.W.Output.kept c.ask_for_copy.new.output)
      (g.S.Write.contents c.args.socket.now) (g.S.Write.contents c.ask_for_copy.new.socket) c.ask_for_copy.ensures.written c.in_err-made.ensures.err,
)

pub returns-clause-goes : goal.returns-clause-goes
returns-clause-goes g c = λ unread. (
  c.print_copy-printed.new.made.unread.items,
  begun_over unread _ _ c.args.subscription.now.delivery c.ask_for_copy.new.self.delivery c.print_copy-printed.new.self.delivery _ _ _ _ _ _ _ _ _ c.ask_for_copy.ensures.written c.in_ok-made.ensures.ok c.print_copy-printed.ensures.goes,
)
