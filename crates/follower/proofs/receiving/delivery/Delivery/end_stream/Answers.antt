use Rattle.std.proofs.Common.{refl, ap, ◌∙◌, ◌++◌, List, ℕ, false, []}
use Rattle.frames.specs.Frame.{frame}
use Rattle.frames.specs.declared.copy_done.TheConstants.{COPY_DONE}
use Rattle.follower.proofs.Going.{telling, ending, goes_then}
use Rattle.follower.proofs.receiving.delivery.Delivery.end_stream.Goals as goal

pub returns-in_err-send_status : goal.returns-in_err-send_status
returns-in_err-send_status g c = record { goes = λ unread written. telling c.args.self.now.clock false unread c.args.self.now written written (g.S.Write.contents c.args.socket.now) (g.S.Write.contents c.send_status.new.socket) c.requires refl c.send_status.ensures.part }

pub returns-in_err-write_front : goal.returns-in_err-write_front
returns-in_err-write_front g c = record { goes = λ unread written. telling c.args.self.now.clock false unread c.args.self.now written written (g.S.Write.contents c.args.socket.now) (g.S.Write.contents c.send_status.new.socket) c.requires refl c.send_status.ensures.part }

pub returns : goal.returns
returns g c = record {
  goes = λ unread written.
      let told = telling c.args.self.now.clock false unread c.args.self.now written written (g.S.Write.contents c.args.socket.now) (g.S.Write.contents c.send_status.new.socket) c.requires refl c.send_status.ensures.part in
      let is = c.as_slice.ensures ∙ c.in_ok-write_front.ensures.ok ∙ ap (λ (l : List ℕ). l ++ frame COPY_DONE []) c.new-end.ensures.items in
      let ends = ending c.as_slice.result.now unread c.args.self.now written written (g.S.Write.contents c.send_status.new.socket) (g.S.Write.contents c.send.new.socket) c.requires refl is c.send.ensures.part in
      goes_then _ _ _ told ends;
}
