use Rattle.follower.proofs.Going.{goes_then, waiting}
use Rattle.follower.proofs.resuming.Subscription.take_next.Goals as goal

pub returns-in_err-settle : goal.returns-in_err-settle
returns-in_err-settle g c = record { goes = goes_then _ _ _ c.take_whole.ensures.goes (c.settle.ensures.goes c.take_whole.new.incoming.unread.items) }

pub returns-in-Err-Silent : goal.returns-in-Err-Silent
returns-in-Err-Silent g c =
    let unread = c.take_whole.new.incoming.unread.items in
    let asked = goes_then _ _ _ (waiting unread c.receive_more.ensures.more.0 c.receive_more.new.self.unread.items c.settle.new.self (g.W.Write.contents c.settle.new.output) (g.W.Output.kept c.settle.new.output)
    (g.S.Write.contents c.settle.new.socket) (g.S.Write.contents c.receive_more.new.socket) c.receive_more.ensures.more.1 c.receive_more.ensures.sent) (c.acknowledge.ensures.goes c.receive_more.new.self.unread.items) in
    record { goes = goes_then _ _ _ c.take_whole.ensures.goes (goes_then _ _ _ (c.settle.ensures.goes unread) asked) }

pub returns-in_default : goal.returns-in_default
returns-in_default g c =
    let unread = c.take_whole.new.incoming.unread.items in
    let waited = waiting unread c.receive_more.ensures.more.0 c.receive_more.new.self.unread.items c.settle.new.self (g.W.Write.contents c.settle.new.output) (g.W.Output.kept c.settle.new.output)
    (g.S.Write.contents c.settle.new.socket) (g.S.Write.contents c.receive_more.new.socket) c.receive_more.ensures.more.1 c.receive_more.ensures.sent in
    record { goes = goes_then _ _ _ c.take_whole.ensures.goes (goes_then _ _ _ (c.settle.ensures.goes unread) waited) }
