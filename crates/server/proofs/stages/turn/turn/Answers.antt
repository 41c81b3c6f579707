use Rattle.server.specs.declared.stages.stage.Stage.TheVariants.{Fresh, Skipping}
use Rattle.server.proofs.Turning.{quiet_turned, closed_turned}
use Rattle.server.proofs.stages.turn.turn.Goals as goal

pub returns-in-Fresh : goal.returns-in-Fresh
returns-in-Fresh g c = rw c.in-Fresh.is (quiet_turned g.D.Backend.told c.args.service Fresh c.args.pending.now c.args.backend.now c.args.out.now.items c.turn_startup.new.out.items c.turn_startup.result c.turn_startup.ensures.turned c.turn_startup.ensures.kept)

pub returns-in-Idle : goal.returns-in-Idle
returns-in-Idle g c = rw c.in-Idle.is c.turn_session.ensures

pub returns-in-InBlock : goal.returns-in-InBlock
returns-in-InBlock g c = rw c.in-InBlock.is (c.turn_block.ensures c.args.service)

pub returns-in-Skipping : goal.returns-in-Skipping
returns-in-Skipping g c = rw c.in-Skipping.is (quiet_turned g.D.Backend.told c.args.service (Skipping c.in-Skipping.database) c.args.pending.now c.args.backend.now c.args.out.now.items c.turn_skipping.new.out.items c.turn_skipping.result (c.turn_skipping.ensures.turned c.args.service) c.turn_skipping.ensures.kept)

pub returns-in-Streaming : goal.returns-in-Streaming
returns-in-Streaming g c = rw c.in-Streaming.is (c.turn_stream.ensures c.args.service)

pub returns-in-Closed : goal.returns-in-Closed
returns-in-Closed g c = rw c.in-Closed.is (closed_turned g.D.Backend.told c.args.service c.args.pending.now c.args.backend.now c.args.out.now.items)
