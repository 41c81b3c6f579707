use Rattle.hub.specs.Turns.{standing}
use Rattle.hub.proofs.stream.stream_loop.write_to_end.Goals as goal

pub returns-clause-turns : goal.returns-clause-turns
returns-clause-turns g c =
    let ended = c.run-last.new.stream in
    (standing ended.walsender ended.hold.seat (g.W.Write.contents c.run-last.new.to), c.run-last.result, c.run-last.ensures.turns, c.finish.ensures.position, rw c.finish.ensures.hold, c.finish.ensures.by)
