use Rattle.hub.specs.Turns.{standing}
use Rattle.hub.proofs.Turns.{left_at_close, left_at_end}
use Rattle.hub.proofs.stream.stream_loop.write_stream.Goals as goal

pub returns-then-is_err : goal.returns-then-is_err
returns-then-is_err g c =
    let old = c.args.stream.now in
    let ended = c.write_to_end-ended.new.stream in
    record {
      slot = left_at_close g.D.WorkBackend.told old.hold.lease.place ended.hold.lease.place c.args.first c.last-last.result c.write_to_end-ended.result c.args.backend.now c.write_to_end-ended.new.backend c.last-last.new.self
          (standing old.walsender old.hold.seat (g.W.Write.contents c.args.to.now)) ended.walsender.sender.position ended.hold.seat c.confirm_any.new.self.hold.seat (g.W.Write.contents c.write_to_end-ended.new.to) c.requires (let value = c.is_err.ensures.value in let is = c.if-is_err.true in cc)
          (rw c.write_to_end-ended.ensures.lease) c.write_to_end-ended.ensures.turns c.last-last.ensures c.confirm_any.ensures.confirms;
    }

pub returns-else-is_err : goal.returns-else-is_err
returns-else-is_err g c =
    let old = c.args.stream.now in
    let ended = c.write_to_end-ended.new.stream in
    record {
      slot = left_at_end g.D.WorkBackend.told old.hold.lease.place c.args.first c.write_to_end-ended.result c.args.backend.now c.write_to_end-ended.new.backend (standing old.walsender old.hold.seat (g.W.Write.contents c.args.to.now))
          ended.walsender.sender.position ended.hold.seat (g.W.Write.contents c.write_to_end-ended.new.to) c.requires (let value = c.is_err.ensures.value in let is = c.if-is_err.false in cc) c.write_to_end-ended.ensures.turns;
    }
