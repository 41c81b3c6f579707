use Rattle.follower.proofs.receiving.delivery.Delivery.answer.Goals as goal

pub returns-in-XLogData : goal.returns-in-XLogData
returns-in-XLogData g c = record { goes = λ unread. rw c.note_sent.ensures at c.learn.ensures.goes unread (g.S.Write.contents c.args.socket.now) }
