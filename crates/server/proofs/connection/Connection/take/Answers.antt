use Rattle.std.proofs.Common.{refl}
use Rattle.server.specs.declared.connection.Connection.{Connection}
use Rattle.server.proofs.Segments.{went-closed}
use Rattle.server.proofs.connection.Connection.take.Goals as goal

pub returns-then-is_closed-clause-went : goal.returns-then-is_closed-clause-went
returns-then-is_closed-clause-went g c =
    let new : Connection = record { alloc = c.args.self.now.alloc; service = c.args.self.now.service; stage = c.args.self.now.stage; pending = c.clear.new.self } in
    went-closed g.D.Backend.told c.args.bytes.now c.args.self.now c.args.backend.now c.args.out.now.items new refl refl c.clear.ensures.items (c.is_closed.ensures.0 c.if-is_closed.true)
